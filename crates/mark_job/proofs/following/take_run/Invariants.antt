use Rattle.std.proofs.Common.{◌-◌, ◌≤◌}
use Rattle.mark_job.proofs.following.take_run.Given as goal

abbrev pub invariant-loop-next : goal.invariant-loop-next
invariant-loop-next l = l.next ≤ l.end

abbrev pub decreases-loop-next : goal.decreases-loop-next
decreases-loop-next l = l.end - l.next
