use Rattle.std.proofs.Common.{w64, bit_and, get_or}
use Rattle.std.specs.Int.{bit_not}
use Rattle.reachability.specs.Queue.{is_met}
use Rattle.reachability.proofs.Blocks.{IsListed}
use Rattle.reachability.proofs.marks.push_block.Given as goal

abbrev pub invariant-loop-rest : goal.invariant-loop-rest
invariant-loop-rest l = IsListed (is_met l.starts l.unmet) l.b (bit_and (get_or l.starts l.b 0) (bit_not w64 (get_or l.unmet l.b 0))) l.list.items l.i l.rest

abbrev pub decreases-loop-rest : goal.decreases-loop-rest
decreases-loop-rest l = l.rest
