use Rattle.std.proofs.Common.{◌≡◌, ℕ, ◌+◌, ◌<◌, ◌≤◌, true, false, get_or}
use Rattle.young_heap.specs.Cards.{is_dirty}
use Rattle.young_heap.specs.Young.{is_below_led}
use Rattle.young_heap.proofs.checking.check_words.Given as goal

abbrev pub invariant-loop-f : goal.invariant-loop-f
invariant-loop-f l = (f : ℕ) → 1 ≤ f → f < l.f → is_dirty l.cards (l.i + f) ≡ false
    → is_below_led l.edition l.starts l.old (get_or l.words (l.i + f) 0) ≡ true
