-- The marked objects before an index, whose words were taken.
use Rattle.std.proofs.Common.{◌≡◌, ℕ, ◌+◌, ◌<◌, ◌≤◌, true, false, List, inl, inr, subst, arith}
use Rattle.std.proofs.lemmas.Bool.{cases_lt, both_ways}
use Rattle.heap_layout.specs.declared.edition.Edition.{Edition}
use Rattle.heap_layout.specs.Bits.{bit}
use Rattle.heap_layout.specs.Header.{size_of}
use Rattle.heap_layout.specs.Heap.{header_at}
use Rattle.rest_marks.specs.Marks.{IsKept, AreBefore}
use Rattle.rest_marks.specs.Reached.{IsWordOf}

pub record AreTaken (edition : Edition) (words heads : List ℕ) (next : ℕ) (bits : List ℕ) : Type 0 where
  pub kept : (i : ℕ) → i < next → bit heads i ≡ true → IsKept edition words heads i
  pub run : (i j : ℕ) → i < next → bit heads i ≡ true → IsWordOf edition words i j → bit bits j ≡ true
  pub before : AreBefore edition words heads next bits
  pub apart : (i j : ℕ) → j < next → bit heads i ≡ true → bit heads j ≡ true → i < j → i + size_of (header_at edition words i) ≤ j

pub taken-first : (edition : Edition) (words heads bits : List ℕ) → ((i : ℕ) → bit bits i ≡ false) → AreTaken edition words heads 0 bits
taken-first edition words heads bits none = record {
  kept = λ i lt. absurd (omega (arith, lt));
  run = λ i j lt. absurd (omega (arith, lt));
  before = λ n set. absurd (both_ways (bit bits n) (none n) set);
  apart = λ i j lt. absurd (omega (arith, lt));
}

-- none is marked up to another index
pub taken-up : (edition : Edition) (words heads bits : List ℕ) (next i : ℕ) → AreTaken edition words heads next bits → next ≤ i
    → ((j : ℕ) → next ≤ j → j < i → bit heads j ≡ false) → AreTaken edition words heads i bits
taken-up edition words heads bits next i are le none =
    let low : (j : ℕ) → j < i → bit heads j ≡ true → j < next = λ j lt set. elim (cases_lt j next) [
      | inl below ↦ below
      | inr above ↦ absurd (both_ways (bit heads j) (none j above lt) set)
    ] in
    record {
      kept = λ j lt set. are.kept j (low j lt set) set;
      run = λ j n lt set of. are.run j n (low j lt set) set of;
      before = λ n set. (let at = are.before n set in (at.0, omega (arith, at.1, le), at.2, at.3));
      apart = λ j k lt one two order. are.apart j k (low k lt two) one two order;
    }

-- one more
pub taken-more : (edition : Edition) (words heads old new : List ℕ) (i : ℕ) → AreTaken edition words heads i old → bit heads i ≡ true → IsKept edition words heads i
    → ((j : ℕ) → IsWordOf edition words i j → bit old j ≡ false) → ((j : ℕ) → IsWordOf edition words i j → bit new j ≡ true)
    → ((j : ℕ) → bit old j ≡ true → bit new j ≡ true) → AreBefore edition words heads (i + 1) new → AreTaken edition words heads (i + 1) new
taken-more edition words heads old new i are head kept free inside stay before = record {
  kept = λ j lt set. elim (cases_lt j i) [
    | inl below ↦ are.kept j below set
    | inr last ↦ (let e : i ≡ j = omega (arith, lt, last) in subst (IsKept edition words heads) e kept)
  ];
  run = λ j n lt set of. elim (cases_lt j i) [
    | inl below ↦ stay n (are.run j n below set of)
    | inr last ↦ (let e : j ≡ i = omega (arith, lt, last) in inside n (subst (λ (m : ℕ). IsWordOf edition words m n) e of))
  ];
  before = before;
  apart = λ j k lt one two order. elim (cases_lt k i) [
    | inl below ↦ are.apart j k below one two order
    | inr last ↦
        let e : k ≡ i = omega (arith, lt, last) in
        let low : j < i = omega (arith, order, e) in
        elim (cases_lt i (j + size_of (header_at edition words j))) [
          | inl overlap ↦ absurd (both_ways (bit old i) (free i (omega arith, omega arith)) (are.run j i low one (omega (arith, low), overlap)))
          | inr past ↦ omega (arith, past, e)
        ]
  ];
}
