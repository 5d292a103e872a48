use Rattle.std.proofs.Common.{◌≡◌, ℕ, ◌<◌, true, get_or}
use Rattle.rest_marks.specs.Reached.{is_within}
use Rattle.mark_job.proofs.marking.first_astray.Given as goal

abbrev pub invariant-loop-k : goal.invariant-loop-k
invariant-loop-k l = (k : ℕ) → k < l.k → is_within l.edition l.count (get_or l.words k 0) ≡ true
