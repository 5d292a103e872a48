use Rattle.mark_job.proofs.Leading.{references-lead}
use Rattle.mark_job.proofs.looking.follow.Goals as goal

pub meet_all-requires-clause-lead : goal.meet_all-requires-clause-lead
meet_all-requires-clause-lead c = references-lead c.args.image.now c.args.i c.in-Some.from.now c.requires.met c.in-Some.ensures
