use Rattle.stopped_heap.proofs.Lowering.{are-slid}
use Rattle.stopped_heap.proofs.laws.collected_is_slid.Goals as goal

pub returns : goal.returns
returns c = are-slid
