use Rattle.std.proofs.Common.{length, ◌-◌}
use Rattle.reachability.specs.Walks.{IsWalkedFrom}
use Rattle.reachability.proofs.walks.walk.Given as goal

abbrev pub invariant-loop-start : goal.invariant-loop-start
invariant-loop-start l = IsWalkedFrom l.edition l.words l.base l.bits l.entry l.start

abbrev pub decreases-loop-start : goal.decreases-loop-start
decreases-loop-start l = length l.words - l.start
