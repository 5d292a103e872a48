use Rattle.std.proofs.Common.{◌≡◌, ℕ, ◌+◌, ◌-◌, ◌<◌, ◌≤◌, true, false, get_or}
use Rattle.heap_layout.specs.Bits.{bit}
use Rattle.heap_layout.specs.Header.{refs_of, weak_of}
use Rattle.heap_layout.specs.Heap.{header_at}
use Rattle.young_heap.specs.Cards.{is_dirty}
use Rattle.young_heap.specs.Young.{is_below_led}
use Rattle.young_heap.proofs.checking.check_old.Given as goal

-- the objects before index i were looked at, and one starts there
abbrev pub invariant-loop-i : goal.invariant-loop-i
invariant-loop-i l = record {
  within : l.i ≤ l.old;
  here : l.i < l.old → bit l.starts l.i ≡ true;
  clean : (i f : ℕ) → i < l.i → bit l.starts i ≡ true → 1 ≤ f → f ≤ refs_of (header_at l.edition l.words i) → is_dirty l.cards (i + f) ≡ false
      → is_below_led l.edition l.starts l.old (get_or l.words (i + f) 0) ≡ true;
  weak : (i f : ℕ) → i < l.i → bit l.starts i ≡ true → refs_of (header_at l.edition l.words i) < f
      → f ≤ refs_of (header_at l.edition l.words i) + weak_of (header_at l.edition l.words i)
      → is_dirty l.cards (i + f) ≡ false → is_below_led l.edition l.starts l.old (get_or l.words (i + f) 0) ≡ true;
}

abbrev pub decreases-loop-i : goal.decreases-loop-i
decreases-loop-i l = l.old - l.i
