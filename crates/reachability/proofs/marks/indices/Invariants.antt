use Rattle.std.proofs.Common.{◌≡◌, ◌*◌}
use Rattle.reachability.specs.Queue.{met_below}
use Rattle.reachability.proofs.marks.indices.Given as goal

abbrev pub invariant-loop-b : goal.invariant-loop-b
invariant-loop-b l = l.list.items ≡ met_below l.starts l.unmet (64 * l.b)
