-- An object, as far as its words are written.
use Rattle.std.proofs.Common.{◌≡◌, ℕ, ◌+◌, ◌-◌, ◌<◌, ◌≤◌, true, List, length, get_or, set, inl, inr, sym, ap, subst, ◌∙◌, arith, get_or-set_same, get_or-set_other}
use Rattle.std.proofs.lemmas.Bool.{cases_eq}
use Rattle.heap_layout.specs.declared.edition.Edition.{Edition}
use Rattle.heap_layout.specs.Bits.{bit}
use Rattle.heap_layout.specs.Header.{refs_of}
use Rattle.heap_layout.specs.Heap.{header_at, IsPlaced, IsValue}
use Rattle.rest_marks.proofs.BitsBelow.{reference-value}
use Rattle.rest_marks.specs.Surveys.{marks_of, told, AreTables}
use Rattle.rest_marks.proofs.Heads.{head-number}

-- the words from `from` up to `at` stand in the part from `begin` on
abbrev pub IsFilled : List ℕ → ℕ → ℕ → ℕ → List ℕ → Type 0
IsFilled expected begin from at part = (j : ℕ) → from + j < at → get_or part (begin + j) 0 ≡ get_or expected (from + j) 0

-- one word more
pub filled-next : (expected : List ℕ) (begin from at : ℕ) (part : List ℕ) (value : ℕ) → from ≤ at → begin + (at - from) < length part → IsFilled expected begin from at part
    → value ≡ get_or expected at 0 → IsFilled expected begin from (at + 1) (set part (begin + (at - from)) value)
filled-next expected begin from at part value order room filled is j lt = elim (cases_eq (begin + j) (begin + (at - from))) [
  | inl same ↦
      let place : from + j ≡ at = omega (arith, same, order) in
      ap (λ (n : ℕ). get_or (set part (begin + (at - from)) value) n 0) same ∙ get_or-set_same part (begin + (at - from)) value 0 room ∙ is
      ∙ ap (λ (n : ℕ). get_or expected n 0) (sym place)
  | inr other ↦ get_or-set_other part (begin + (at - from)) (begin + j) value 0 other ∙ filled j (omega (arith, other, lt, order))
]

-- what stands before the part stays
pub before-kept : (begin n value : ℕ) (part old : List ℕ) → ((k : ℕ) → k < begin → get_or part k 0 ≡ get_or old k 0)
    → (k : ℕ) → k < begin → get_or (set part (begin + n) value) k 0 ≡ get_or old k 0
before-kept begin n value part old kept k lt = get_or-set_other part (begin + n) k value 0 (λ same. omega (arith, same, lt)) ∙ kept k lt

module _ (edition : Edition) (words heads bits counts : List ℕ) (tables : AreTables edition words heads bits counts) (start : ℕ) (head : bit heads start ≡ true) where
  -- a live object is placed
  pub live-placed : IsPlaced edition words start
  live-placed =
      let number = head-number heads start head in
      subst (IsPlaced edition words) number.2 (tables.sound.placed number.0 0 number.1)

  -- its references lead to live objects
  pub live-value : (f : ℕ) → 1 ≤ f → f ≤ refs_of (header_at edition words start) → IsValue edition (marks_of heads) (get_or words (start + f) 0)
  live-value f positive le =
      let number = head-number heads start head in
      subst (λ (i : ℕ). f ≤ refs_of (header_at edition words i) → IsValue edition (marks_of heads) (get_or words (i + f) 0)) number.2
      (λ few. reference-value (told edition words heads) tables.sound number.0 f number.1 positive few) le
