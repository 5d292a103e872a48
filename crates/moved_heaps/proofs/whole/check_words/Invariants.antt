use Rattle.std.proofs.Common.{◌<◌, ℕ}
use Rattle.moved_heaps.specs.Moved.{IsWhole}
use Rattle.moved_heaps.proofs.whole.check_words.Given as goal

-- the objects before this one stand whole
abbrev pub invariant-loop-k : goal.invariant-loop-k
invariant-loop-k l = (j : ℕ) → j < l.k → IsWhole l.heap l.moved j
