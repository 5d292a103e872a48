use Rattle.std.proofs.Common.{Some, sym, ap, ◌∙◌}
use Rattle.heap_layout.specs.Heap.{Heap}
use Rattle.handle_base.specs.HandleKinds.{heap_in, plan_in}
use Rattle.flip_handle.specs.Turning.{IsUnplanned, Plans}
use Rattle.handle_base.specs.declared.kept.Kept.{Kept}
use Rattle.handle_base.specs.declared.kept.Kept.TheVariants as kept
use Rattle.handle_base.proofs.TurnedKept.{answer_by, goes_by, kept_by, kept_full, kept_gone, kept_other, kept_stays}
use Rattle.flip_handle.proofs.turning.planned.Goals as goal

pub returns-in-Err-clause-turns : goal.returns-in-Err-clause-turns
returns-in-Err-clause-turns c =
    let own = c.in-Err.ensures.other in
    kept_other heap_in Plans IsUnplanned _ _ _ _ _ own.1 (goes_by c.stays.ensures) (kept_by c.stays.ensures ∙ own.0) (answer_by c.stays.ensures ∙ c.bare.ensures)

pub returns-then-full-clause-turns : goal.returns-then-full-clause-turns
returns-then-full-clause-turns c =
    let is = c.in-Ok.ensures.heap in
    let at = ap (λ (k : Kept). heap_in (Some k)) is in
    kept_full heap_in Plans IsUnplanned _ _ _ _ _ c.in-Ok.heap at c.if-full.true (goes_by c.stays-then-full.ensures) (kept_by c.stays-then-full.ensures ∙ sym is) (answer_by c.stays-then-full.ensures ∙ c.bare-then-full.ensures)

pub returns-in-Ok-plan_for-clause-turns : goal.returns-in-Ok-plan_for-clause-turns
returns-in-Ok-plan_for-clause-turns c =
    let at = ap (λ (k : Kept). heap_in (Some k)) c.in-Ok.ensures.heap in
    let planned = ap (λ (k : Kept). plan_in (Some k)) (kept_by c.gone.ensures) ∙ ap (λ (heap : Heap). Some heap) c.in-Ok-plan_for.ensures.plan in
    kept_gone heap_in Plans IsUnplanned _ _ _ _ _ c.in-Ok.heap at c.if-full.false (goes_by c.gone.ensures) (planned, answer_by c.gone.ensures)

pub returns-in-Err-plan_for-clause-turns : goal.returns-in-Err-plan_for-clause-turns
returns-in-Err-plan_for-clause-turns c =
    let is = c.in-Ok.ensures.heap in
    let at = ap (λ (k : Kept). heap_in (Some k)) is in
    let t = c.stays-in-Err-plan_for.ensures in
    kept_stays heap_in Plans IsUnplanned _ _ _ _ _ c.in-Ok.heap at c.if-full.false (goes_by t) (kept_by t ∙ ap (λ (heap : Heap). kept.Heap heap) c.in-Err-plan_for.ensures.back ∙ sym is)
    (answer_by t ∙ c.bare-in-Err-plan_for.ensures)
