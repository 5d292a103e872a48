use Rattle.stopped_heap.proofs.Collected.{collected-reached}
use Rattle.stopped_heap.proofs.laws.collected_is_reached.Goals as goal

pub returns : goal.returns
returns c = collected-reached
