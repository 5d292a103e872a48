use Rattle.std.proofs.Common.{Some, sym, ap, subst, ◌∙◌}
use Rattle.heap_layout.specs.Faults.{IsAccepted}
use Rattle.heap_layout.specs.Heap.{Heap}
use Rattle.comp_crew.specs.declared.finishing.Ended.{Ended as End}
use Rattle.handle_base.specs.HandleKinds.{end_in}
use Rattle.flip_handle.specs.Turning.{FollowsReached, IsNextReached, IsUnreached}
use Rattle.handle_base.specs.declared.kept.Kept.{Kept}
use Rattle.handle_base.specs.declared.kept.Kept.TheVariants as kept
use Rattle.handle_base.proofs.TurnedKept.{answer_by, goes_by, kept_by, kept_full, kept_gone, kept_other, kept_stays}
use Rattle.flip_handle.proofs.turning.reached.Goals as goal

pub returns-in-Err-clause-turns : goal.returns-in-Err-clause-turns
returns-in-Err-clause-turns c =
    let own = c.in-Err.ensures.other in
    kept_other end_in (FollowsReached c.args.roots.now) (IsUnreached c.args.roots.now) _ _ _ _ _ own.1 (goes_by c.stays.ensures) (kept_by c.stays.ensures ∙ own.0) (answer_by c.stays.ensures ∙ c.bare.ensures)

pub returns-then-full-clause-turns : goal.returns-then-full-clause-turns
returns-then-full-clause-turns c =
    let is = c.in-Ok.ensures.end in
    let at = ap (λ (k : Kept). end_in (Some k)) is in
    kept_full end_in (FollowsReached c.args.roots.now) (IsUnreached c.args.roots.now) _ _ _ _ _ c.in-Ok.ended at c.if-full.true (goes_by c.stays-then-full.ensures) (kept_by c.stays-then-full.ensures ∙ sym is) (answer_by c.stays-then-full.ensures ∙ c.bare-then-full.ensures)

pub returns-in-Ok-next_reached-clause-turns : goal.returns-in-Ok-next_reached-clause-turns
returns-in-Ok-next_reached-clause-turns c =
    let at = ap (λ (k : Kept). end_in (Some k)) c.in-Ok.ensures.end in
    let h = c.in-Ok-next_reached.ensures in
    let next : IsNextReached c.args.roots.now c.in-Ok-next_reached.heap.marks c.in-Ok.ended (Some c.gone.result.kept) = record {
      next = ap (λ (k : Kept). Some k) (kept_by c.gone.ensures ∙ ap (λ (heap : Heap). kept.Heap heap) h.next);
      accepted = subst (λ (heap : Heap). IsAccepted heap) h.next h.accepted;
      reachable = h.reachable;
      cycle = h.cycle;
      chapter = h.chapter;
      keeps = h.keeps;
    } in
    kept_gone end_in (FollowsReached c.args.roots.now) (IsUnreached c.args.roots.now) _ _ _ _ _ c.in-Ok.ended at c.if-full.false (goes_by c.gone.ensures)
    (c.in-Ok-next_reached.heap.marks, next, answer_by c.gone.ensures)

pub returns-in-Err-next_reached-clause-turns : goal.returns-in-Err-next_reached-clause-turns
returns-in-Err-next_reached-clause-turns c =
    let is = c.in-Ok.ensures.end in
    let at = ap (λ (k : Kept). end_in (Some k)) is in
    let h = c.in-Err-next_reached.ensures in
    let t = c.stays-in-Err-next_reached.ensures in
    kept_stays end_in (FollowsReached c.args.roots.now) (IsUnreached c.args.roots.now) _ _ _ _ _ c.in-Ok.ended at c.if-full.false (goes_by t) (kept_by t ∙ ap (λ (e : End). kept.Ended e) h.back ∙ sym is)
    (c.in-Err-next_reached.left.fault, answer_by t ∙ c.unaccepted.ensures, h.refused)
