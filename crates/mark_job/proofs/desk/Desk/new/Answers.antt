use Rattle.std.proofs.Common.{subst, sym}
use Rattle.mark_job.specs.LeadingWords.{LeadIn}
use Rattle.mark_job.proofs.Leading.{roots-lead}
use Rattle.mark_job.proofs.desk.Desk.new.Goals as goal

pub meet_all-requires-clause-lead : goal.meet_all-requires-clause-lead
meet_all-requires-clause-lead c = subst (LeadIn c.args.image.now) (sym c.roots.ensures) (roots-lead c.args.image.now)
