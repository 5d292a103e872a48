use Rattle.std.proofs.Common.{length, ◌-◌}
use Rattle.reachability.proofs.Starts.{IsWalked}
use Rattle.reachability.proofs.row.set_starts.Given as goal

abbrev pub invariant-loop-start : goal.invariant-loop-start
invariant-loop-start l = IsWalked l.edition l.words l.bits l.start

abbrev pub decreases-loop-start : goal.decreases-loop-start
decreases-loop-start l = length l.words - l.start
