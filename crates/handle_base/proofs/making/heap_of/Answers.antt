use Rattle.std.proofs.Common.{◌≡◌, ℕ, List, ap, sym, subst, ◌∙◌}
use Rattle.std.specs.Result.{IfErr}
use Rattle.heap_layout.specs.Heap.{Heap}
use Rattle.handle_base.specs.Making.{given, AreFew, IsWhy}
use Rattle.handle_base.proofs.Whys.{err_more, why_answered}
use Rattle.handle_base.proofs.making.heap_of.Goals as goal

pub returns-clause-fault : goal.returns-clause-fault
returns-clause-fault c =
    let edition = c.args.edition in
    let words = c.in_ok-words.words.items in
    let marks = c.in_ok-marks.marks.items in
    let roots = c.in_ok-roots.roots.items in
    let same : given edition words marks roots ≡ given edition c.args.words.now c.args.marks.now c.args.roots.now =
    ap (λ (l : List ℕ). given edition l marks roots) c.in_ok-words.ensures ∙ ap (λ (l : List ℕ). given edition c.args.words.now l roots) c.in_ok-marks.ensures
    ∙ ap (λ (l : List ℕ). given edition c.args.words.now c.args.marks.now l) c.in_ok-roots.ensures in
    let few = subst (λ (heap : Heap). AreFew heap.edition heap.words heap.marks heap.roots) (sym same) c.in_ok-check_sizes.ensures in
    subst (λ (heap : Heap). IfErr c.from_parts_of.result (IsWhy heap)) same
    (err_more c.from_parts_of.result (λ fault h. why_answered (given edition words marks roots) fault few h) c.from_parts_of.ensures.fault)
