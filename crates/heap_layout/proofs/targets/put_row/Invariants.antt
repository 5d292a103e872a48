use Rattle.std.proofs.Common.{◌-◌, length}
use Rattle.heap_layout.specs.Faults.{IsReached}
use Rattle.heap_layout.proofs.RowBits.{AreBelow}
use Rattle.heap_layout.proofs.targets.put_row.Given as goal

-- the walk came to an object, and the bits of the objects before it are set
abbrev pub invariant-loop-start : goal.invariant-loop-start
invariant-loop-start l = record { reached : IsReached l.edition l.words l.start; below : AreBelow l.edition l.words l.bits l.start }

abbrev pub decreases-loop-start : goal.decreases-loop-start
decreases-loop-start l = length l.words - l.start
