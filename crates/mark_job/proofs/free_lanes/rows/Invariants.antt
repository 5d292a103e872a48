use Rattle.std.proofs.Common.{◌≡◌, length}
use Rattle.mark_job.proofs.free_lanes.rows.Given as goal

abbrev pub invariant-loop : goal.invariant-loop
invariant-loop l = length l.rows.items ≡ l.counter
