use Rattle.std.proofs.Common.{◌<◌, ℕ}
use Rattle.moved_heaps.specs.Moved.{IsWord}
use Rattle.moved_heaps.proofs.whole.wrong_word.Given as goal

-- the words before this one are right
abbrev pub invariant-loop-offset : goal.invariant-loop-offset
invariant-loop-offset l = (j : ℕ) → j < l.offset → IsWord l.heap l.moved l.k j
