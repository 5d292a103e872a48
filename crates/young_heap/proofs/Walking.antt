-- Rows of objects, from a word on.
use Rattle.std.proofs.Common.{◌≡◌, ℕ, ◌+◌, ◌<◌, ◌⊎◌, min, List, inl, inr, refl, sym, subst, arith}
use Rattle.std.proofs.lemmas.Bool.{cases_lt}
use Rattle.heap_layout.specs.declared.edition.Edition.{Edition}
use Rattle.heap_layout.specs.Header.{size_of}
use Rattle.heap_layout.specs.Heap.{header_at}
use Rattle.young_heap.specs.Rows.{IsInRow, here, behind}

module _ (edition : Edition) (words : List ℕ) (end : ℕ) where
  -- a row that has an object begins before its end
  pub row-some : (i j : ℕ) → IsInRow edition words end i j → i < end
  row-some i j (here _ lt) = lt
  row-some i j (behind _ _ lt rest) = lt

  -- each of its objects starts before its end
  pub row-before : (i j : ℕ) → IsInRow edition words end i j → j < end
  row-before i j (here _ lt) = lt
  row-before i j (behind _ _ lt rest) = row-before (i + size_of (header_at edition words i)) j rest

  -- its first object, or one behind
  pub row-cases : (i j : ℕ) → IsInRow edition words end i j → (j ≡ i) ⊎ IsInRow edition words end (i + size_of (header_at edition words i)) j
  row-cases i j (here _ lt) = inl refl
  row-cases i j (behind _ _ lt rest) = inr rest

  -- a row that begins at the end, or behind it, has none
  pub row-cut : (i j : ℕ) → IsInRow edition words end (min i end) j → IsInRow edition words end i j
  row-cut i j row = elim (cases_lt end i) [
    | inl past ↦ absurd (let least : min i end ≡ end = omega (arith, past) in let some = row-some (min i end) j row in omega (arith, some, least))
    | inr le ↦ (let least : min i end ≡ i = omega (arith, le) in subst (λ (n : ℕ). IsInRow edition words end n j) least row)
  ]

  pub row-back : (i j : ℕ) → IsInRow edition words end i j → IsInRow edition words end (min i end) j
  row-back i j row =
      let some = row-some i j row in
      let least : min i end ≡ i = omega (arith, some) in
      subst (λ (n : ℕ). IsInRow edition words end n j) (sym least) row
