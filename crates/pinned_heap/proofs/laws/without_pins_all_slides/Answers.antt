use Rattle.std.proofs.Common.{arith}
use Rattle.pinned_heap.proofs.Placed.{unpinned}
use Rattle.pinned_heap.proofs.laws.without_pins_all_slides.Goals as goal

pub returns : goal.returns
returns c = λ objects k lt. let at = unpinned 0 objects k lt in omega (arith, at)
