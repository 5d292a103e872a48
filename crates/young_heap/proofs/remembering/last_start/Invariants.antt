use Rattle.std.proofs.Common.{◌≡◌, ℕ, ◌<◌, ◌≤◌, false}
use Rattle.heap_layout.specs.Bits.{bit}
use Rattle.young_heap.proofs.remembering.last_start.Given as goal

abbrev pub invariant-loop-i : goal.invariant-loop-i
invariant-loop-i l = record {
  from : l.i ≤ l.word;
  none : (j : ℕ) → l.i < j → j ≤ l.word → bit l.starts j ≡ false;
}

abbrev pub decreases-loop-i : goal.decreases-loop-i
decreases-loop-i l = l.i
