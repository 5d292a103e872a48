-- The marked objects up to an index, that are as they must be.
use Rattle.std.proofs.Common.{◌≡◌, ℕ, ◌<◌, ◌≤◌, true, false, List, inl, inr, sym, subst, arith}
use Rattle.std.proofs.lemmas.Bool.{cases_lt, cases_eq, both_ways}
use Rattle.heap_layout.specs.declared.edition.Edition.{Edition}
use Rattle.heap_layout.specs.Bits.{bit}
use Rattle.rest_marks.specs.Kept.{AreKeptIn, EndsBefore}
use Rattle.rest_marks.specs.Marks.{IsKept}

pub kept-first : (edition : Edition) (words heads : List ℕ) (from : ℕ) → AreKeptIn edition words heads from from
kept-first edition words heads from = record {
  kept = λ i le lt. absurd (omega (arith, le, lt));
  apart = λ i le lt. absurd (omega (arith, le, lt));
}

-- none is marked up to another index
pub kept-up : (edition : Edition) (words heads : List ℕ) (from next to : ℕ) → AreKeptIn edition words heads from next
    → ((j : ℕ) → next ≤ j → j < to → bit heads j ≡ false) → AreKeptIn edition words heads from to
kept-up edition words heads from next to are none =
    let low : (j : ℕ) → j < to → bit heads j ≡ true → j < next = λ j lt set. elim (cases_lt j next) [
      | inl below ↦ below
      | inr above ↦ absurd (both_ways (bit heads j) (none j above lt) set)
    ] in
    record {
      kept = λ i le lt set. are.kept i le (low i lt set) set;
      apart = λ i le lt set. are.apart i le (low i lt set) set;
    }

-- one more
pub kept-next : (edition : Edition) (words heads : List ℕ) (from next i after : ℕ) → AreKeptIn edition words heads from next
    → ((j : ℕ) → next ≤ j → j < i → bit heads j ≡ false) → IsKept edition words heads i → EndsBefore edition words heads i
    → ((j : ℕ) → i < j → j < after → bit heads j ≡ false) → AreKeptIn edition words heads from after
kept-next edition words heads from next i after are before kept ends none =
    let here : (j : ℕ) → next ≤ j → j < after → bit heads j ≡ true → i ≡ j = λ j le lt set. elim (cases_lt j i) [
      | inl below ↦ absurd (both_ways (bit heads j) (before j le below) set)
      | inr above ↦ elim (cases_eq j i) [
        | inl same ↦ sym same
        | inr other ↦ absurd (both_ways (bit heads j) (none j (omega (arith, above, other)) lt) set)
      ]
    ] in
    record {
      kept = λ j le lt set. elim (cases_lt j next) [
        | inl below ↦ are.kept j le below set
        | inr above ↦ subst (IsKept edition words heads) (here j above lt set) kept
      ];
      apart = λ j le lt set. elim (cases_lt j next) [
        | inl below ↦ are.apart j le below set
        | inr above ↦ subst (EndsBefore edition words heads) (here j above lt set) ends
      ];
    }

-- and two runs side by side
pub kept-joined : (edition : Edition) (words heads : List ℕ) (from middle to : ℕ) → AreKeptIn edition words heads from middle → AreKeptIn edition words heads middle to
    → AreKeptIn edition words heads from to
kept-joined edition words heads from middle to one two = record {
  kept = λ j le lt set. elim (cases_lt j middle) [ inl below ↦ one.kept j le below set | inr above ↦ two.kept j above lt set ];
  apart = λ j le lt set. elim (cases_lt j middle) [ inl below ↦ one.apart j le below set | inr above ↦ two.apart j above lt set ];
}
