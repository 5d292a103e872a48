use Rattle.std.proofs.Common.{IfErr, subst}
use Rattle.rest_marks.specs.Reached.{IsFaultOf}
use Rattle.mark_job.specs.Asked.{Asked}
use Rattle.mark_job.proofs.job.Job.finish.Goals as goal

pub returns-clause-fault : goal.returns-clause-fault
returns-clause-fault c = subst (λ (asked : Asked). IfErr c.survey-found.result (IsFaultOf asked.edition asked.words asked.roots)) c.self.view_is c.survey-found.ensures.fault
