use Rattle.stopped_heap.proofs.Once.{once}
use Rattle.stopped_heap.proofs.laws.reached_is_one.Goals as goal

pub returns : goal.returns
returns c = once
