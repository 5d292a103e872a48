use Rattle.std.proofs.Common.{◌≡◌, ◌∙◌, ap, length, arith}
use Rattle.heap_layout.specs.Heap.{Heap}
use Rattle.page_plan.proofs.Objects.{live_words-all}
use Rattle.comp_audit.proofs.Slid.{owner_here}
use Rattle.comp_audit.proofs.explaining.objects.owner.Goals as goal

pub returns-then-new_index-end : goal.returns-then-new_index-end
returns-then-new_index-end c =
    let heap = c.args.plan.now in
    let marks : c.marks-number-end.result.now ≡ heap.marks = c.marks-number-end.ensures.marks ∙ ap (λ (h : Heap). h.marks) c.heap.ensures in
    owner_here heap c.args.new_index c.loop-number.number c.loop-number.begin c.end_of-end.result c.slid_object.result
    (omega (arith, c.loop-number-test.true, ap length marks)) c.loop-number.invariant.begin
    c.loop-number.invariant.before c.end_of-end.ensures (omega arith) c.slid_object.ensures.object c.slid_object.ensures.number

pub returns : goal.returns
returns c =
    let heap = c.args.plan.now in
    let marks : c.marks-number-end.result.now ≡ heap.marks = c.marks-number-end.ensures.marks ∙ ap (λ (h : Heap). h.marks) c.heap.ensures in
    let all = live_words-all heap.edition heap.words heap.marks c.loop-number.number (omega (arith, c.loop-number-test.false, ap length marks)) in
    omega (arith, all, c.loop-number.invariant.begin, c.loop-number.invariant.before)
