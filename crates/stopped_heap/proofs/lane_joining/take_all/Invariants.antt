use Rattle.std.proofs.Common.{◌≡◌, ℕ, ◌<◌, ◌⊎◌, true, length, get_or, drop}
use Rattle.heap_layout.specs.Bits.{bit}
use Rattle.rest_marks.specs.LaneParts.{met_at, IsOneOf}
use Rattle.rest_marks.specs.Meeting.{AreMet, AreOnce}
use Rattle.stopped_heap.proofs.lane_joining.take_all.Given as goal

-- the remaining indices make of the queue what all make of the first one
abbrev pub invariant-loop-k : goal.invariant-loop-k
invariant-loop-k l = record {
  queue : met_at l.queue.items (drop l.k l.indices) ≡ met_at l.fn.queue.items l.indices;
  has : (k : ℕ) → k < l.k → bit l.heads (get_or l.indices k 0) ≡ true;
  knows : (k : ℕ) → k < l.k → bit l.known (get_or l.indices k 0) ≡ true;
  more : (i : ℕ) → bit l.fn.known i ≡ true → bit l.known i ≡ true;
  stay : (i : ℕ) → bit l.fn.heads i ≡ true → bit l.heads i ≡ true;
  told : (i : ℕ) → bit l.known i ≡ true → (bit l.fn.known i ≡ true) ⊎ IsOneOf l.indices i;
  met : AreMet l.queue.items l.heads;
  once : AreOnce l.count l.queue.items;
  known : length l.known ≡ length l.fn.known;
  heads : length l.heads ≡ length l.fn.heads;
}
