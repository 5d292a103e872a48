use Rattle.std.proofs.Common.{◌≡◌, ℕ, ◌-◌, ◌*◌, ◌<◌, ◌≤◌, false, length}
use Rattle.heap_layout.specs.Bits.{bit}
use Rattle.rest_marks.proofs.bit_search.next_set.Given as goal

abbrev pub invariant-loop-b : goal.invariant-loop-b
invariant-loop-b l = record {
  from : l.i ≤ 64 * l.b;
  within : l.b ≤ length l.bits;
  none : (j : ℕ) → l.i ≤ j → j < 64 * l.b → bit l.bits j ≡ false;
}

abbrev pub decreases-loop-b : goal.decreases-loop-b
decreases-loop-b l = length l.bits - l.b
