-- A walk over the row that sets the bit of each object's first word.
use Rattle.std.proofs.Common.{◌≡◌, ◌≢◌, ℕ, zero, suc, ◌+◌, ◌-◌, ◌<◌, ◌≤◌, ◌&&◌, Bool, true, false, eqb, ltb, List, [], ◌∷◌, inl, inr, length, refl, sym, ap, ◌∙◌, arith}
use Rattle.std.specs.List.{flat_map}
use Rattle.std.proofs.lemmas.Bool.{eqb-true, lt-ltb, le-ltb, cases_lt, cases_order, or_cases, and_left, and_right, and_from}
use Rattle.heap_layout.specs.declared.edition.Edition.{Edition}
use Rattle.heap_layout.specs.Header.{header_of, size_of}
use Rattle.heap_layout.specs.Bits.{bit}
use Rattle.heap_layout.specs.Heap.{header_at, starts, starts_from, starts_at, is_start, IsPlaced}
use Rattle.heap_layout.specs.Faults.{object_faults}
use Rattle.heap_layout.proofs.Rows.{faults-behind, start-here, behind-here, none-before, IsSameFrom}

-- The walk came to index `start`. The objects from there on have the faults of the whole row; the bits of the objects
-- before it are set, and no others.
pub record IsWalked (edition : Edition) (words bits : List ℕ) (start : ℕ) : Type 0 where
  pub within : start ≤ length words
  pub faults : flat_map (object_faults edition words) (starts_at edition words start) ≡ flat_map (object_faults edition words) (starts edition words)
  pub row : IsSameFrom edition words start
  pub below : (j : ℕ) → bit bits j ≡ (ltb j start && is_start (starts edition words) j)

-- before the first object
pub walked-first : (edition : Edition) (words bits : List ℕ) → ((j : ℕ) → bit bits j ≡ false) → IsWalked edition words bits 0
walked-first edition words bits none = record {
  within = omega arith;
  faults = refl;
  row = λ k above. refl;
  below = λ j. none j ∙ sym (and_left (ltb j 0) _ (le-ltb j 0 (omega arith)));
}

-- one object more
pub walked-next : (edition : Edition) (words old new : List ℕ) (start next : ℕ) → IsWalked edition words old start → start < length words → IsPlaced edition words start
    → bit new start ≡ true → ((j : ℕ) → j ≢ start → bit new j ≡ bit old j) → next ≡ start + size_of (header_at edition words start)
    → IsWalked edition words new next
walked-next edition words old new start next walked lt placed here others ends =
    let row = starts edition words in
    let below : (j : ℕ) → bit new j ≡ (ltb j next && is_start row j) = λ j.
    elim (cases_order j start) [
      | inl same ↦
          ap (bit new) same ∙ here
          ∙ sym (and_from (ltb j next) (is_start row j) (lt-ltb j next (omega (arith, same, ends))) (ap (is_start row) same ∙ start-here edition words start walked.row lt))
      | inr (inl less) ↦
          others j (λ q. omega arith) ∙ walked.below j
          ∙ ap (λ (b : Bool). b && is_start row j) (lt-ltb j start less ∙ sym (lt-ltb j next (omega (arith, ends))))
      | inr (inr more) ↦
          others j (λ q. omega arith) ∙ walked.below j ∙ and_left (ltb j start) _ (le-ltb j start (omega arith)) ∙ sym (elim (cases_lt j next) [
            | inl inside ↦ and_right (ltb j next) _ (behind-here edition words start j walked.row placed more
                ∙ none-before edition (start + size_of (header_at edition words start)) 0 _ j (omega (arith, ends)))
            | inr behind ↦ and_left (ltb j next) _ (le-ltb j next behind)
          ])
    ] in
    record {
      within = omega (arith, placed.within, ends);
      faults = rw ends (faults-behind edition words start placed ∙ walked.faults);
      row = λ k above. rw ends (behind-here edition words start k walked.row placed (omega (arith, ends, above)));
      below = below;
    }

-- objects start within the words
pub starts-within : (edition : Edition) (i covered : ℕ) (words : List ℕ) (k : ℕ) → is_start (starts_from edition i covered words) k ≡ true → k < i + length words
starts-within edition i covered [] k found = absurd (let no : false ≡ true = found in cc)
starts-within edition i zero (word ∷ words) k found =
    elim (or_cases (eqb i k) (is_start (starts_from edition (i + 1) (size_of (header_of edition word) - 1) words) k) found) [
      | inl here ↦ let same : i ≡ k = eqb-true i k here in omega arith
      | inr later ↦ let more = starts-within edition (i + 1) (size_of (header_of edition word) - 1) words k later in omega arith
    ]
starts-within edition i (suc covered) (word ∷ words) k found = let more = starts-within edition (i + 1) covered words k found in omega arith
