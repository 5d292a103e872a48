-- A row of objects, as far as it was looked at.
use Rattle.std.proofs.Common.{◌≡◌, ℕ, ◌+◌, ◌<◌, ◌≤◌, true, false, List, inl, inr, sym, ap, subst, ◌∙◌, arith}
use Rattle.std.proofs.lemmas.Bool.{both_ways, cases_lt, cases_order}
use Rattle.heap_layout.specs.declared.edition.Edition.{Edition}
use Rattle.heap_layout.specs.Bits.{bit}
use Rattle.heap_layout.specs.Header.{size_of}
use Rattle.heap_layout.specs.Heap.{header_at, IsPlaced}
use Rattle.young_heap.specs.Young.{AreOld}

module _ (edition : Edition) (words starts : List ℕ) (next : ℕ) (are : AreOld edition words starts next) where
  abbrev end : ℕ
  end = next + size_of (header_at edition words next)

  -- one object more
  pub old-next : bit starts next ≡ true → IsPlaced edition words next → ((j : ℕ) → next < j → j < end → bit starts j ≡ false) → AreOld edition words starts end
  old-next set placed none =
      let only : (i : ℕ) → next ≤ i → i < end → bit starts i ≡ true → i ≡ next = λ i from to is.
      elim (cases_order i next) [
        | inl same ↦ same
        | inr (inl less) ↦ absurd (omega (arith, less, from))
        | inr (inr more) ↦ absurd (both_ways (bit starts i) (none i more to) is)
      ] in
      let size-at : (i : ℕ) → i ≡ next → i + size_of (header_at edition words i) ≡ end = λ i same. ap (λ (n : ℕ). n + size_of (header_at edition words n)) same in
      record {
        within = placed.within;
        placed = λ i low is. elim (cases_lt i next) [
          | inl before ↦ are.placed i before is
          | inr here ↦ subst (IsPlaced edition words) (sym (only i here low is)) placed
        ];
        inside = λ i low is. elim (cases_lt i next) [
          | inl before ↦ omega (arith, are.inside i before is)
          | inr here ↦ omega (arith, size-at i (only i here low is))
        ];
        apart = λ i j one two order low. elim (cases_lt j next) [
          | inl before ↦ are.apart i j one two order before
          | inr here ↦
              let last = only j here low two in
              let before : i < next = omega (arith, last, order) in
              omega (arith, last, are.inside i before one)
        ];
        row = λ j low. elim (cases_lt j next) [
          | inl before ↦ are.row j before
          | inr here ↦ (next, set, (here, low))
        ];
      }

  module _ (old : ℕ) (all : AreOld edition words starts old) (more : next < old) where
    -- a row that goes on has an object there
    pub old-start : bit starts next ≡ false → ⊥
    old-start unset =
        let at = all.row next more in
        elim (cases_order at.0 next) [
          | inl same ↦ both_ways (bit starts next) unset (sym (ap (bit starts) same) ∙ at.1)
          | inr (inl less) ↦ absurd (let inside = are.inside at.0 less at.1 in omega (arith, inside, at.2.1))
          | inr (inr above) ↦ absurd (omega (arith, above, at.2.0))
        ]

    -- and no other one in it
    pub old-apart : bit starts next ≡ true → end ≤ old → (j : ℕ) → next < j → j < end → bit starts j ≡ true → ⊥
    old-apart set fits j above below is = absurd (let apart = all.apart next j set is above (omega (arith, below, fits)) in omega (arith, apart, below))
