use Rattle.std.proofs.Common.{◌≡◌, ◌<◌, ◌≤◌, ℕ, false}
use Rattle.heap_layout.specs.Bits.{bit}
use Rattle.pinned_heap.proofs.cutting.last_between.Given as goal

abbrev pub invariant-loop-next : goal.invariant-loop-next
invariant-loop-next l = record {
  within : l.next ≤ l.end;
  none : (j : ℕ) → l.next ≤ j → j < l.end → bit l.bits j ≡ false;
}

abbrev pub decreases-loop-next : goal.decreases-loop-next
decreases-loop-next l = l.next
