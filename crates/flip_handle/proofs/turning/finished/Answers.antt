use Rattle.std.proofs.Common.{Some, sym, ap, ◌∙◌}
use Rattle.comp_crew.specs.Finishes.{live_of}
use Rattle.comp_crew.specs.declared.bench.Bench.{Bench}
use Rattle.handle_base.specs.Answers.{done}
use Rattle.handle_base.specs.HandleKinds.{crew_in}
use Rattle.flip_handle.specs.Turning.{Finishes, IsUnfinished}
use Rattle.handle_base.specs.declared.kept.Kept.{Kept}
use Rattle.handle_base.specs.declared.kept.Kept.TheVariants as kept
use Rattle.handle_base.proofs.TurnedKept.{answer_by, goes_by, kept_by, kept_full, kept_gone, kept_other, kept_stays}
use Rattle.flip_handle.proofs.turning.finished.Goals as goal

pub returns-in-Err-clause-turns : goal.returns-in-Err-clause-turns
returns-in-Err-clause-turns c =
    let own = c.in-Err.ensures.other in
    kept_other crew_in Finishes IsUnfinished _ _ _ _ _ own.1 (goes_by c.stays.ensures) (kept_by c.stays.ensures ∙ own.0) (answer_by c.stays.ensures ∙ c.bare.ensures)

pub returns-then-full-clause-turns : goal.returns-then-full-clause-turns
returns-then-full-clause-turns c =
    let is = c.in-Ok.ensures.crew in
    let at = ap (λ (k : Kept). crew_in (Some k)) is in
    kept_full crew_in Finishes IsUnfinished _ _ _ _ _ c.in-Ok.bench at c.if-full.true (goes_by c.stays-then-full.ensures) (kept_by c.stays-then-full.ensures ∙ sym is) (answer_by c.stays-then-full.ensures ∙ c.bare-then-full.ensures)

pub returns-in-Ok-finish-clause-turns : goal.returns-in-Ok-finish-clause-turns
returns-in-Ok-finish-clause-turns c =
    let at = ap (λ (k : Kept). crew_in (Some k)) c.in-Ok.ensures.crew in
    let h = c.in-Ok-finish.ensures in
    let live = c.live_words-live.ensures ∙ ap live_of c.finished.ensures in
    kept_gone crew_in Finishes IsUnfinished _ _ _ _ _ c.in-Ok.bench at c.if-full.false (goes_by c.gone.ensures)
    (c.in-Ok-finish.ended, ap (λ (k : Kept). Some k) (kept_by c.gone.ensures), h.finished, h.flipped, answer_by c.gone.ensures ∙ ap done live)

pub returns-in-Err-finish-clause-turns : goal.returns-in-Err-finish-clause-turns
returns-in-Err-finish-clause-turns c =
    let is = c.in-Ok.ensures.crew in
    let at = ap (λ (k : Kept). crew_in (Some k)) is in
    let h = c.in-Err-finish.ensures in
    let t = c.stays-in-Err-finish.ensures in
    kept_stays crew_in Finishes IsUnfinished _ _ _ _ _ c.in-Ok.bench at c.if-full.false (goes_by t) (kept_by t ∙ ap (λ (bench : Bench). kept.Crew bench) h.back ∙ sym is)
    (c.in-Err-finish.left.fault, answer_by t ∙ c.unfinished.ensures, h.fault)
