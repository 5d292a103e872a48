use Rattle.std.proofs.Common.{◌≡◌, ℕ, ◌*◌, ◌<◌, ◌≤◌, false, length}
use Rattle.heap_layout.specs.Bits.{bit}
use Rattle.young_heap.specs.Young.{AreKeptBelow}
use Rattle.young_heap.proofs.promoting.clear_from.Given as goal

abbrev pub invariant-loop-k : goal.invariant-loop-k
invariant-loop-k l = record {
  below : AreKeptBelow l.old l.fn.bits l.bits;
  none : (i : ℕ) → l.old ≤ i → i < 64 * l.k → bit l.bits i ≡ false;
  long : length l.bits ≡ length l.fn.bits;
}
