use Rattle.std.proofs.Common.{arith}
use Rattle.pinned_heap.proofs.Placed.{rising}
use Rattle.pinned_heap.proofs.laws.gaps_rise.Goals as goal

pub returns : goal.returns
returns c = λ staying objects order. rising staying 0 0 0 objects order (omega arith)
