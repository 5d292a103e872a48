use Rattle.std.proofs.Common.{◌<◌, ◌≤◌, ◌+◌, ℕ}
use Rattle.moved_heaps.specs.Moved.{size_at}
use Rattle.moved_heaps.specs.Ordered.{pair_at}
use Rattle.moved_heaps.proofs.overlaps.check_neighbours.Given as goal

-- no object before this one begins inside the one before it
abbrev pub invariant-loop-i : goal.invariant-loop-i
invariant-loop-i l = (j : ℕ) → j + 1 < l.i → (pair_at l.row j).0 + size_at l.heap (pair_at l.row j).1 ≤ (pair_at l.row (j + 1)).0
