use Rattle.std.proofs.Common.{inl, inr, refl, subst, sym}
use Rattle.comp_trace.specs.Traces.{lines_of}
use Rattle.commands.specs.Outcome.{Outcome}
use Rattle.commands.specs.TraceTasks.{IsReplayed}
use Rattle.commands.proofs.Halted.{halted_run}
use Rattle.commands.proofs.replay.replayed.Goals as goal

pub returns-in-Ok-clause-outcome : goal.returns-in-Ok-clause-outcome
returns-in-Ok-clause-outcome g c = inl (c.in-Ok.ran.shown.items, c.in-Ok.ran.finished, c.in-Ok.ensures.over, refl)

pub returns-in-Err-clause-outcome : goal.returns-in-Err-clause-outcome
returns-in-Err-clause-outcome g c =
    let lines = lines_of c.args.trace.now in
    subst (λ (outcome : Outcome). IsReplayed c.args.mutators c.args.fresh lines c.args.heap outcome) (sym c.halted.ensures.outcome)
    (inr (halted_run c.args.mutators c.args.fresh lines c.args.heap c.in-Err.halt c.in-Err.ensures.halted))
