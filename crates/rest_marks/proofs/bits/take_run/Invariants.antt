use Rattle.std.proofs.Common.{◌≡◌, ℕ, ◌-◌, ◌<◌, ◌≤◌, List, true, false, length}
use Rattle.heap_layout.specs.Bits.{bit}
use Rattle.rest_marks.proofs.bits.take_run.Given as goal

-- the bits from `start` up to `next` are set, and were not; all others are as they were
pub record IsTaken (start next : ℕ) (before bits : List ℕ) : Type 0 where
  pub long : length bits ≡ length before
  pub begun : start ≤ next
  pub free : (j : ℕ) → start ≤ j → j < next → bit before j ≡ false
  pub below : (j : ℕ) → j < start → bit bits j ≡ bit before j
  pub inside : (j : ℕ) → start ≤ j → j < next → bit bits j ≡ true
  pub above : (j : ℕ) → next ≤ j → bit bits j ≡ bit before j

abbrev pub invariant-loop-next : goal.invariant-loop-next
invariant-loop-next l = IsTaken l.start l.next l.fn.bits l.bits × (l.next ≤ l.end)

abbrev pub decreases-loop-next : goal.decreases-loop-next
decreases-loop-next l = l.end - l.next
