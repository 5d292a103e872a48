-- The premise of the next young collection, before the first one, and while mutators store.
use Rattle.std.proofs.Common.{◌≡◌, ℕ, ◌+◌, ◌<◌, ◌≤◌, Bool, true, List, [], refl, ap, ◌∙◌, arith}
use Rattle.heap_layout.specs.declared.edition.Edition.{Edition}
use Rattle.heap_layout.specs.Bits.{bit}
use Rattle.heap_layout.specs.Header.{header_of, refs_of, weak_of, size_of}
use Rattle.heap_layout.specs.Heap.{header_at}
use Rattle.young_heap.specs.Cards.{AreStored, AreUnasked}
use Rattle.young_heap.specs.Young.{is_below_led, AreOld, AreRemembered}

pub none-old : (edition : Edition) (words starts : List ℕ) → AreOld edition words starts 0
none-old edition words starts = record {
  within = omega arith;
  placed = λ i low. absurd (omega (arith, low));
  inside = λ i low. absurd (omega (arith, low));
  apart = λ i j one two order low. absurd (omega (arith, low));
  row = λ j low. absurd (omega (arith, low));
}

pub none-asked : (edition : Edition) (words starts : List ℕ) (asked : ℕ → Bool) → AreUnasked edition words starts 0 asked
none-asked edition words starts asked = record {
  clean = λ i f low. absurd (omega (arith, low));
  weak = λ i f low. absurd (omega (arith, low));
}

pub all-clean : (edition : Edition) (words starts : List ℕ) (old : ℕ) (asked : ℕ → Bool) → AreRemembered edition words starts old [] [] → AreUnasked edition words starts old asked
all-clean edition words starts old asked are = record {
  clean = λ i f low set from to none. are.clean i f low set from to refl;
  weak = λ i f low set from to none. are.weak i f low set from to refl;
}

module _ (edition : Edition) (words starts : List ℕ) (old : ℕ) (asked : ℕ → Bool) (after : List ℕ) (now : ℕ → Bool) (stored : AreStored edition words starts old asked after now) where
  -- an old object has the header that it had
  header-same : (i : ℕ) → i < old → bit starts i ≡ true → header_at edition after i ≡ header_at edition words i
  header-same i low set = ap (header_of edition) (stored.headers i low set)

  size-same : (i : ℕ) → i < old → bit starts i ≡ true → size_of (header_at edition after i) ≡ size_of (header_at edition words i)
  size-same i low set = ap size_of (header-same i low set)

  refs-same : (i : ℕ) → i < old → bit starts i ≡ true → refs_of (header_at edition after i) ≡ refs_of (header_at edition words i)
  refs-same i low set = ap refs_of (header-same i low set)

  weak-same : (i : ℕ) → i < old → bit starts i ≡ true → weak_of (header_at edition after i) ≡ weak_of (header_at edition words i)
  weak-same i low set = ap weak_of (header-same i low set)

  pub still-old : AreOld edition words starts old → AreOld edition after starts old
  still-old are = record {
    within = omega (arith, are.within, stored.longer);
    placed = λ i low set.
        let size = size-same i low set in
        let placed = are.placed i low set in
        record { within = omega (arith, size, placed.within, stored.longer); short = omega (arith, size, placed.short) };
    inside = λ i low set. omega (arith, size-same i low set, are.inside i low set);
    apart = λ i j one two order low. omega (arith, size-same i (omega (arith, order, low)) one, are.apart i j one two order low);
    row = λ j low.
        let at = are.row j low in
        let size = size-same at.0 (omega (arith, at.2.0, low)) at.1 in
        (at.0, at.1, (at.2.0, omega (arith, size, at.2.1)));
  }

  pub still-clean : AreUnasked edition words starts old asked → AreUnasked edition after starts old now
  still-clean are = record {
    clean = λ i f low set from to none.
        let few : f ≤ refs_of (header_at edition words i) = omega (arith, refs-same i low set, to) in
        ap (is_below_led edition starts old) (stored.references i f low set from few none) ∙ are.clean i f low set from few (stored.stay (i + f) none);
    weak = λ i f low set from to none.
        let behind : refs_of (header_at edition words i) < f = omega (arith, refs-same i low set, from) in
        let few : f ≤ refs_of (header_at edition words i) + weak_of (header_at edition words i) = omega (arith, refs-same i low set, weak-same i low set, to) in
        ap (is_below_led edition starts old) (stored.weak i f low set behind few none) ∙ are.weak i f low set behind few (stored.stay (i + f) none);
  }
