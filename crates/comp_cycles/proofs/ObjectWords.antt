-- The words of an object, with one function applied to its references and weak words. The header and the data words
-- stay.
use Rattle.std.proofs.Common.{◌≡◌, ℕ, zero, suc, ◌+◌, ◌<◌, ◌≤◌, List, ◌∷◌, ◌++◌, length, get_or, take, drop, map, sym, ap, ◌∙◌, arith, drop-drop}
use Rattle.std.proofs.Math.Seq.{take-add}
use Rattle.std.proofs.lemmas.List.{map-append}
use Rattle.heap_layout.specs.Header.{refs_of, weak_of, data_of, size_of}
use Rattle.heap_layout.specs.declared.edition.Edition.{Edition}
use Rattle.heap_layout.specs.Heap.{Object, header_at, object_at, IsPlaced}
use Rattle.page_plan.proofs.Objects.{at-data, length-parts, at-reference}

-- the words, with g applied to the references and weak words
abbrev pub words_by : (ℕ → ℕ) → Object → List ℕ
words_by g object = object.header.word ∷ (map g object.references ++ map g object.weak ++ object.data_words)

module _ (edition : Edition) (g : ℕ → ℕ) (words : List ℕ) (i : ℕ) where
  abbrev refs : ℕ
  refs = refs_of (header_at edition words i)

  abbrev weak : ℕ
  weak = weak_of (header_at edition words i)

  abbrev more : ℕ
  more = data_of (header_at edition words i)

  -- the words that are changed are a range of the row
  changed-words : map g (object_at edition words i).references ++ map g (object_at edition words i).weak ≡ map g (take (refs + weak) (drop (i + 1) words))
  changed-words =
      let behind = drop (i + 1) words in
      let dropped : drop refs behind ≡ drop (i + 1 + refs) words = drop-drop refs (i + 1) words in
      let whole : take (refs + weak) behind ≡ take refs behind ++ take weak (drop (i + 1 + refs) words) =
      take-add refs weak behind ∙ ap (λ (xs : List ℕ). take refs behind ++ take weak xs) dropped in
      sym (ap (map g) whole ∙ map-append g (take refs behind) (take weak (drop (i + 1 + refs) words)))

  -- all words are the header, that range changed, and the data words
  all-words : words_by g (object_at edition words i) ≡ get_or words i 0 ∷ (map g (take (refs + weak) (drop (i + 1) words)) ++ take more (drop (i + 1 + (refs + weak)) words))
  all-words =
      let at : i + 1 + refs + weak ≡ i + 1 + (refs + weak) = omega arith in
      ap (λ (xs : List ℕ). get_or words i 0 ∷ (xs ++ (object_at edition words i).data_words)) changed-words
      ∙ ap (λ (n : ℕ). get_or words i 0 ∷ (map g (take (refs + weak) (drop (i + 1) words)) ++ take more (drop n words))) at

  -- the number of words stays
  pub words-length : IsPlaced edition words i → length (words_by g (object_at edition words i)) ≡ size_of (header_at edition words i)
  words-length placed =
      let within : i + (1 + (refs + weak) + more) ≤ length words = omega (arith, placed.within) in
      ap length all-words ∙ omega (arith, length-parts words g i (refs + weak) more within)

  -- references and weak words are changed by g
  pub word-changed : (f : ℕ) → IsPlaced edition words i → 1 ≤ f → f ≤ refs + weak → get_or (words_by g (object_at edition words i)) f 0 ≡ g (get_or words (i + f) 0)
  word-changed zero placed positive le = absurd (omega (arith, positive))
  word-changed (suc f) placed positive le =
      let same : i + 1 + f ≡ i + suc f = omega arith in
      ap (λ (xs : List ℕ). get_or xs (suc f) 0) all-words
      ∙ at-reference words g i (refs + weak) more f (omega (arith, placed.within)) (omega (arith, le))
      ∙ ap (λ (n : ℕ). g (get_or words n 0)) same

  -- the header and the data words stay
  pub word-stays : (f : ℕ) → IsPlaced edition words i → (1 ≤ f → refs + weak < f) → f < size_of (header_at edition words i)
      → get_or (words_by g (object_at edition words i)) f 0 ≡ get_or words (i + f) 0
  word-stays zero placed above lt = ap (λ (n : ℕ). get_or words n 0) (let z : i ≡ i + 0 = omega arith in z)
  word-stays (suc f) placed above lt =
      let same : i + 1 + f ≡ i + suc f = omega arith in
      let behind = above (omega arith) in
      ap (λ (xs : List ℕ). get_or xs (suc f) 0) all-words
      ∙ at-data words g i (refs + weak) more f (omega (arith, placed.within)) (omega (arith, behind)) (omega (arith, lt))
      ∙ ap (λ (n : ℕ). get_or words n 0) same
