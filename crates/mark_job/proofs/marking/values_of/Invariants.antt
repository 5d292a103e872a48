use Rattle.std.proofs.Common.{◌≡◌, length}
use Rattle.mark_job.proofs.marking.values_of.Given as goal

abbrev pub invariant-loop-k : goal.invariant-loop-k
invariant-loop-k l = length l.values.items ≡ l.k
