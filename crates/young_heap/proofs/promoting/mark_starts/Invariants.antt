use Rattle.std.proofs.Common.{◌≡◌, ℕ, ◌-◌, ◌≤◌, ◌⊎◌, true, length}
use Rattle.heap_layout.specs.Bits.{bit}
use Rattle.young_heap.specs.Rows.{IsInRow}
use Rattle.young_heap.specs.Young.{AreKeptBelow}
use Rattle.young_heap.proofs.promoting.mark_starts.Given as goal

-- the objects before index i are marked, and those of the row from there on are the others of the whole row
abbrev pub invariant-loop-i : goal.invariant-loop-i
invariant-loop-i l = record {
  below : AreKeptBelow l.old l.fn.heads l.heads;
  from : l.old ≤ l.i;
  starts : (j : ℕ) → l.old ≤ j → bit l.heads j ≡ true → IsInRow l.edition l.words l.live l.old j;
  path : (j : ℕ) → IsInRow l.edition l.words l.live l.i j → IsInRow l.edition l.words l.live l.old j;
  all : (j : ℕ) → IsInRow l.edition l.words l.live l.old j → (bit l.heads j ≡ true) ⊎ IsInRow l.edition l.words l.live l.i j;
  long : length l.heads ≡ length l.fn.heads;
}

abbrev pub decreases-loop-i : goal.decreases-loop-i
decreases-loop-i l = l.live - l.i
