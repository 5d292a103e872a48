use Rattle.moved_heaps.proofs.Ranks.{AreSetTo}
use Rattle.moved_heaps.proofs.index.starts.Given as goal

-- the bits of the marks before this one are set
abbrev pub invariant-loop-mark : goal.invariant-loop-mark
invariant-loop-mark l = AreSetTo l.heap l.bits.items l.mark-index
