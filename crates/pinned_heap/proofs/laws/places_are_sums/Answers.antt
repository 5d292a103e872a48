use Rattle.std.proofs.Common.{arith}
use Rattle.pinned_heap.proofs.Placed.{sums}
use Rattle.pinned_heap.proofs.laws.places_are_sums.Goals as goal

pub returns : goal.returns
returns c = λ staying objects k order lt. let at = sums staying 0 0 0 objects k order (omega arith) lt in omega (arith, at)
