use Rattle.std.proofs.Common.{◌≡◌, ℕ, ◌<◌, true, get_or}
use Rattle.heap_layout.specs.Bits.{leads}
use Rattle.heap_layout.specs.Values.{or_immediate}
use Rattle.rest_marks.proofs.given_marks.check_kept.Given as goal

abbrev pub invariant-loop-k : goal.invariant-loop-k
invariant-loop-k l = (k : ℕ) → k < l.k → or_immediate l.edition (leads l.heads) (get_or l.words k 0) ≡ true
