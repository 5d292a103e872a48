use Rattle.std.proofs.Common.{ℕ, List, Some, ap, subst, ◌∙◌}
use Rattle.heap_layout.specs.Faults.{IsAccepted}
use Rattle.heap_layout.specs.Heap.{Heap}
use Rattle.comp_crew.specs.declared.finishing.Ended.{Ended as End}
use Rattle.flip_handle.specs.Turning.{Follows, IsNext, IsUnfollowed}
use Rattle.handle_base.specs.declared.kept.Kept.{Kept}
use Rattle.handle_base.specs.declared.kept.Kept.TheVariants as kept
use Rattle.flip_handle.proofs.Refusing.{too_large, unmarked}
use Rattle.handle_base.proofs.TurnedKept.{answer_by, kept_by}
use Rattle.flip_handle.proofs.turning.next_with.Goals as goal

pub returns-in-Err-clause-refused : goal.returns-in-Err-clause-refused
returns-in-Err-clause-refused c = λ stays.
    (kept_by c.stays.ensures, too_large c.args.ended c.args.roots.now c.args.marks.now c.in-Err.fault c.stays.result.answer c.requires c.in-Err.ensures (answer_by c.stays.ensures ∙ c.unaccepted.ensures))

pub returns-in_default-copied_marks-clause-refused : goal.returns-in_default-copied_marks-clause-refused
returns-in_default-copied_marks-clause-refused c = λ stays.
    let t = c.stays-in_default-copied_marks in
    (kept_by t.ensures, unmarked c.args.ended c.args.roots.now c.args.marks.now t.result.answer c.in_default.ensures (answer_by t.ensures ∙ c.unaccepted-answer.ensures))

pub returns-in-Ok-next_heap-clause-next : goal.returns-in-Ok-next_heap-clause-next
returns-in-Ok-next_heap-clause-next c = λ goes.
    let h = c.in-Ok-next_heap.ensures in
    let next : IsNext c.args.roots.now c.in-Ok.marks.items c.args.ended (Some c.gone.result.kept) = record {
      next = ap (λ (k : Kept). Some k) (kept_by c.gone.ensures ∙ ap (λ (heap : Heap). kept.Heap heap) h.next);
      accepted = subst (λ (heap : Heap). IsAccepted heap) h.next h.accepted;
      cycle = h.cycle;
      chapter = h.chapter;
    } in
    subst (λ (l : List ℕ). Follows c.args.roots.now l c.args.ended (Some c.gone.result.kept) c.gone.result.answer) c.in-Ok.ensures (next, answer_by c.gone.ensures)

pub returns-in-Err-next_heap-clause-refused : goal.returns-in-Err-next_heap-clause-refused
returns-in-Err-next_heap-clause-refused c = λ stays.
    let left = c.in-Err-next_heap.left in
    let h = c.in-Err-next_heap.ensures in
    let t = c.stays-in-Err-next_heap in (
      kept_by t.ensures ∙ ap (λ (e : End). kept.Ended e) h.back,
      subst (λ (l : List ℕ). IsUnfollowed c.args.roots.now l c.args.ended t.result.answer) c.in-Ok.ensures (left.fault, answer_by t.ensures ∙ c.unaccepted-in-Err-next_heap.ensures, h.refused, h.memory),
    )
