use Rattle.moved_heaps.proofs.Ranks.{AreCountsTo}
use Rattle.moved_heaps.proofs.index.counts.Given as goal

-- the counts before this block
abbrev pub invariant-loop-block : goal.invariant-loop-block
invariant-loop-block l = AreCountsTo l.bits l.below.items l.total l.block-index
