use Rattle.std.proofs.Common.{◌≡◌, length}
use Rattle.mark_job.proofs.desk.zeros.Given as goal

abbrev pub invariant-loop : goal.invariant-loop
invariant-loop l = length l.words.items ≡ l.counter
