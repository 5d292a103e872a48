use Rattle.stopped_heap.proofs.Collected.{collected-accepted}
use Rattle.stopped_heap.proofs.laws.collected_is_accepted.Goals as goal

pub returns : goal.returns
returns c = collected-accepted
