use Rattle.std.proofs.Common.{subst, IfSome}
use Rattle.mark_job.specs.Asked.{Asked, AreMetIn}
use Rattle.mark_job.proofs.lanes.Lanes.take.Goals as goal

pub returns-clause-met : goal.returns-clause-met
returns-clause-met c = subst (λ (asked : Asked). IfSome c.take_out.result (λ taken. AreMetIn asked taken.lane)) c.requires.key c.take_out.ensures.met
