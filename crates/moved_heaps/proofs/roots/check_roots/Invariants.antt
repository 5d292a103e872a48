use Rattle.std.proofs.Common.{◌<◌, ℕ}
use Rattle.moved_heaps.specs.Moved.{IsRoot}
use Rattle.moved_heaps.proofs.roots.check_roots.Given as goal

-- the roots before this one are right
abbrev pub invariant-loop-i : goal.invariant-loop-i
invariant-loop-i l = (j : ℕ) → j < l.i → IsRoot l.heap l.moved j
