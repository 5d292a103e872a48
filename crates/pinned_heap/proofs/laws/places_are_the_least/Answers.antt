use Rattle.std.proofs.Common.{arith}
use Rattle.pinned_heap.proofs.Placed.{least}
use Rattle.pinned_heap.proofs.laws.places_are_the_least.Goals as goal

pub returns : goal.returns
returns c = λ staying objects places is. least staying 0 0 objects places is (omega arith)
