use Rattle.std.proofs.Common.{◌≡◌, ◌<◌, ℕ, length, get_or}
use Rattle.moved_heaps.specs.Ordered.{pair_at}
use Rattle.moved_heaps.proofs.overlaps.numbered.Given as goal

-- the places before this one are in the row
abbrev pub invariant-loop-k : goal.invariant-loop-k
invariant-loop-k l = record { long : length l.row.items ≡ l.k; each : (j : ℕ) → j < l.k → pair_at l.row.items j ≡ (get_or l.moved.places j 0, j) }
