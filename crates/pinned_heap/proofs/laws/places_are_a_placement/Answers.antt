use Rattle.std.proofs.Common.{arith}
use Rattle.pinned_heap.proofs.Placed.{placed}
use Rattle.pinned_heap.proofs.laws.places_are_a_placement.Goals as goal

pub returns : goal.returns
returns c = λ staying objects order. placed staying 0 0 objects order (omega arith)
