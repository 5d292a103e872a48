use Rattle.mark_job.proofs.OneFound.{one-found}
use Rattle.mark_job.proofs.laws.found_is_one.Goals as goal

pub returns : goal.returns
returns c = one-found
