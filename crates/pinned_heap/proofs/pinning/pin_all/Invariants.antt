use Rattle.std.proofs.Common.{◌≡◌, ℕ, ◌<◌, true, length, get_or, take}
use Rattle.heap_layout.specs.Bits.{bit}
use Rattle.pinned_heap.specs.Around.{stays as is_pinned}
use Rattle.pinned_heap.specs.Tables.{is_pin}
use Rattle.pinned_heap.proofs.pinning.pin_all.Given as goal

-- the pins before this one are marked, and no other object
abbrev pub invariant-loop-k : goal.invariant-loop-k
invariant-loop-k l = record {
  long : length l.stays ≡ length l.fn.stays;
  objects : (i : ℕ) → bit l.stays i ≡ true → bit l.heads i ≡ true;
  pinned : (i : ℕ) → bit l.stays i ≡ is_pinned (take l.k l.pins) i;
  good : (j : ℕ) → j < l.k → is_pin l.edition l.heads (get_or l.pins j 0) ≡ true;
}
