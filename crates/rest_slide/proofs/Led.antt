-- The words of an object after the collection, wherever its references and weak words lead.
use Rattle.std.proofs.Common.{◌≡◌, ℕ, zero, suc, ◌+◌, ◌<◌, ◌≤◌, List, ◌∷◌, ◌++◌, length, get_or, take, drop, map, sym, ap, ◌∙◌, arith, drop-drop}
use Rattle.std.proofs.Math.Seq.{take-add}
use Rattle.std.proofs.lemmas.List.{map-append}
use Rattle.heap_layout.specs.declared.edition.Edition.{Edition}
use Rattle.heap_layout.specs.Header.{refs_of, weak_of, data_of, size_of}
use Rattle.heap_layout.specs.Heap.{header_at, object_at, IsPlaced}
use Rattle.page_plan.proofs.Objects.{at-reference, at-data}
use Rattle.rest_marks.specs.Places.{led_words}

module _ (g : ℕ → ℕ) (edition : Edition) (words : List ℕ) (i : ℕ) where
  -- the references and weak words of an object are a range of the from-space words
  led-fields : map g (object_at edition words i).references ++ map g (object_at edition words i).weak
      ≡ map g (take (refs_of (header_at edition words i) + weak_of (header_at edition words i)) (drop (i + 1) words))
  led-fields =
      let h = header_at edition words i in
      let behind = drop (i + 1) words in
      let dropped : drop (refs_of h) behind ≡ drop (i + 1 + refs_of h) words = drop-drop (refs_of h) (i + 1) words in
      let whole : take (refs_of h + weak_of h) behind ≡ take (refs_of h) behind ++ take (weak_of h) (drop (i + 1 + refs_of h) words) =
      take-add (refs_of h) (weak_of h) behind ∙ ap (λ (xs : List ℕ). take (refs_of h) behind ++ take (weak_of h) xs) dropped in
      sym (ap (map g) whole ∙ map-append g (take (refs_of h) behind) (take (weak_of h) (drop (i + 1 + refs_of h) words)))

  -- its words are its header, that range led, and its data words
  led-parts : led_words g (object_at edition words i)
      ≡ get_or words i 0 ∷ (map g (take (refs_of (header_at edition words i) + weak_of (header_at edition words i)) (drop (i + 1) words))
      ++ take (data_of (header_at edition words i)) (drop (i + 1 + (refs_of (header_at edition words i) + weak_of (header_at edition words i))) words))
  led-parts =
      let h = header_at edition words i in
      let at : i + 1 + refs_of h + weak_of h ≡ i + 1 + (refs_of h + weak_of h) = omega arith in
      ap (λ (xs : List ℕ). h.word ∷ (xs ++ (object_at edition words i).data_words)) led-fields
      ∙ ap (λ (n : ℕ). h.word ∷ (map g (take (refs_of h + weak_of h) (drop (i + 1) words)) ++ take (data_of h) (drop n words))) at

  -- its header
  pub led-header : get_or (led_words g (object_at edition words i)) 0 0 ≡ get_or words i 0
  led-header = ap (λ (xs : List ℕ). get_or xs 0 0) led-parts

  -- its references and weak words
  pub led-refers : (f : ℕ) → IsPlaced edition words i → 1 ≤ f → f ≤ refs_of (header_at edition words i) + weak_of (header_at edition words i)
      → get_or (led_words g (object_at edition words i)) f 0 ≡ g (get_or words (i + f) 0)
  led-refers zero placed positive le = absurd (omega arith)
  led-refers (suc n) placed positive le =
      let h = header_at edition words i in
      let within : i + (1 + (refs_of h + weak_of h) + data_of h) ≤ length words = omega (arith, placed.within) in
      let place : i + 1 + n ≡ i + suc n = omega arith in
      ap (λ (xs : List ℕ). get_or xs (suc n) 0) led-parts
      ∙ at-reference words g i (refs_of h + weak_of h) (data_of h) n within (omega (arith, le))
      ∙ ap (λ (m : ℕ). g (get_or words m 0)) place

  -- and its data words
  pub led-data : (f : ℕ) → IsPlaced edition words i → 1 + refs_of (header_at edition words i) + weak_of (header_at edition words i) ≤ f → f < size_of (header_at edition words i)
      → get_or (led_words g (object_at edition words i)) f 0 ≡ get_or words (i + f) 0
  led-data zero placed above lt = absurd (omega arith)
  led-data (suc n) placed above lt =
      let h = header_at edition words i in
      let within : i + (1 + (refs_of h + weak_of h) + data_of h) ≤ length words = omega (arith, placed.within) in
      let place : i + 1 + n ≡ i + suc n = omega arith in
      ap (λ (xs : List ℕ). get_or xs (suc n) 0) led-parts
      ∙ at-data words g i (refs_of h + weak_of h) (data_of h) n within (omega (arith, above)) (omega (arith, lt))
      ∙ ap (λ (m : ℕ). get_or words m 0) place
