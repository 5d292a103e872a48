use Rattle.std.proofs.Common.{arith}
use Rattle.pinned_heap.proofs.Placed.{moved-down}
use Rattle.pinned_heap.proofs.laws.nothing_moves_up.Goals as goal

pub returns : goal.returns
returns c = λ staying objects order. moved-down staying 0 0 objects order (omega arith)
