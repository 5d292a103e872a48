use Rattle.stopped_heap.proofs.Joined.{joined-whole}
use Rattle.stopped_heap.proofs.laws.parts_are_whole.Goals as goal

pub returns : goal.returns
returns c = λ heap counts sound all. joined-whole heap counts sound all
