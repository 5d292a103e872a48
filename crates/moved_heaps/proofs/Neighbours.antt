-- Objects that overlap, in the order of their places.
use Rattle.std.proofs.Common.{◌≡◌, ℕ, ◌+◌, ◌-◌, ◌<◌, ◌≤◌, ◌⊎◌, List, length, sym, ap, subst, ◌∙◌, inl, inr, ⊎_elim, arith}
use Rattle.std.proofs.lemmas.Bool.{cases_lt}
use Rattle.heap_layout.specs.Heap.{Heap}
use Rattle.moved_heaps.specs.Moved.{Moved, place, size_at, HasHead}
use Rattle.moved_heaps.specs.MovedFaults.{ComesBefore, IsLeastOverlap, Overlaps}
use Rattle.moved_heaps.specs.Ordered.{pair_at, AreByPlace}

module _ (heap : Heap) (moved : Moved) (head : HasHead heap moved) (row : List (ℕ × ℕ)) (by : AreByPlace moved row) where
  -- the object at position i of the row
  abbrev at : ℕ → ℕ
  at i = (pair_at row i).1

  place_at : (i : ℕ) → i < length row → (pair_at row i).0 ≡ place moved (at i)
  place_at i lt = (by.numbers i lt).1

  -- an object that comes before another one stands before it in the row
  stands_before : (i j : ℕ) → i < length row → j < length row → ComesBefore moved (at i) (at j) → i < j
  stands_before i j lti ltj before = ⊎_elim
      (λ (lt : i < j). lt)
      (λ (ge : j ≤ i). ⊎_elim
      (λ (gt : j < i). absurd (clash (by.rising j i gt lti) before))
      (λ (le : i ≤ j). let same : i ≡ j = omega (arith, ge, le) in absurd (itself before (ap at same)))
      (cases_lt j i))
      (cases_lt i j)
    where
      clash : ((pair_at row j).0 < (pair_at row i).0) ⊎ (((pair_at row j).0 ≡ (pair_at row i).0) × (at j < at i)) → ComesBefore moved (at i) (at j) → ⊥
      clash (inl lower) (inl less) = omega (arith, lower, less, place_at i lti, place_at j ltj)
      clash (inl lower) (inr same) = omega (arith, lower, same.0, place_at i lti, place_at j ltj)
      clash (inr level) (inl less) = omega (arith, level.0, less, place_at i lti, place_at j ltj)
      clash (inr level) (inr same) = omega (arith, level.1, same.1)

      itself : ComesBefore moved (at i) (at j) → at i ≡ at j → ⊥
      itself (inl less) e = let places = ap (place moved) e in omega (arith, less, places)
      itself (inr same) e = omega (arith, same.1, e)

  -- the places do not fall
  level : (i j : ℕ) → i ≤ j → j < length row → (pair_at row i).0 ≤ (pair_at row j).0
  level i j le lt = ⊎_elim
      (λ (below : i < j). ⊎_elim
      (λ (less : (pair_at row i).0 < (pair_at row j).0). omega (arith, less))
      (λ (same : ((pair_at row i).0 ≡ (pair_at row j).0) × (at i < at j)). omega (arith, same.0))
      (by.rising i j below lt))
      (λ (ge : j ≤ i). let same : i ≡ j = omega (arith, le, ge) in let e = ap (λ k. (pair_at row k).0) same in omega (arith, e))
      (cases_lt i j)

  -- up to position i no object begins inside the one before it
  abbrev pub AreClear : ℕ → Type 0
  AreClear i = (j : ℕ) → j + 1 < i → (pair_at row j).0 + size_at heap (pair_at row j).1 ≤ (pair_at row (j + 1)).0

  -- so none of these overlaps a later one
  clear_there : (i p q : ℕ) → AreClear i → p + 1 < i → p < length row → q < length row → Overlaps heap moved (at p) (at q) → ⊥
  clear_there i p q clear inside ltp ltq overlaps =
      let before = stands_before p q ltp ltq overlaps.order in
      let next = level (p + 1) q (omega (arith, before)) ltq in
      omega (arith, clear p inside, next, overlaps.inside, place_at p ltp, place_at q ltq)

  clear_before : (i p a b : ℕ) → AreClear i → p + 1 < i → p < length row → at p ≡ a → Overlaps heap moved a b → ⊥
  clear_before i p a b clear inside ltp is overlaps =
      let found = by.all b (omega (arith, overlaps.second, head.places)) in
      clear_there i p found.0 clear inside ltp found.1
      (subst (λ (k : ℕ). Overlaps heap moved k (at found.0)) (sym is) (subst (λ (k : ℕ). Overlaps heap moved a k) (sym found.2) overlaps))

  -- if all are clear, no two overlap
  pub none_overlap : (i : ℕ) → length row ≤ i → AreClear i → (k l : ℕ) → Overlaps heap moved k l → ⊥
  none_overlap i all clear k l overlaps =
      let first = by.all k (omega (arith, overlaps.first, head.places)) in
      let second = by.all l (omega (arith, overlaps.second, head.places)) in
      let moved_there : Overlaps heap moved (at first.0) (at second.0) =
      subst (λ (n : ℕ). Overlaps heap moved n (at second.0)) (sym first.2) (subst (λ (n : ℕ). Overlaps heap moved k n) (sym second.2) overlaps) in
      let before = stands_before first.0 second.0 first.1 second.1 moved_there.order in
      clear_there i first.0 second.0 clear (omega (arith, before, second.1, all)) first.1 second.1 moved_there

  module _ (j : ℕ) (lt : j + 1 < length row) (clear : AreClear (j + 1)) (inside : (pair_at row (j + 1)).0 < (pair_at row j).0 + size_at heap (at j)) where
    order_here : ComesBefore moved (at j) (at (j + 1))
    order_here = ⊎_elim
        (λ (less : (pair_at row j).0 < (pair_at row (j + 1)).0). inl (omega (arith, less, place_at j (omega (arith, lt)), place_at (j + 1) lt)))
        (λ (same : ((pair_at row j).0 ≡ (pair_at row (j + 1)).0) × (at j < at (j + 1))). inr (sym (place_at j (omega (arith, lt))) ∙ same.0 ∙ place_at (j + 1) lt, same.1))
        (by.rising j (j + 1) (omega arith) lt)

    overlap_here : Overlaps heap moved (at j) (at (j + 1))
    overlap_here = record {
      first = omega (arith, (by.numbers j (omega (arith, lt))).0, head.places);
      second = omega (arith, (by.numbers (j + 1) lt).0, head.places);
      order = order_here;
      inside = omega (arith, inside, place_at j (omega (arith, lt)), place_at (j + 1) lt);
    }

    -- the neighbours at j are the least pair that overlaps
    pub least_overlap : IsLeastOverlap heap moved (at j) (at (j + 1))
    least_overlap = record {
      overlaps = overlap_here;
      first = λ a b overlaps before.
          let found = by.all a (omega (arith, overlaps.first, head.places)) in
          let stands = stands_before found.0 j found.1 (omega (arith, lt)) (subst (λ (n : ℕ). ComesBefore moved n (at j)) (sym found.2) before) in
          clear_before (j + 1) found.0 a b clear (omega (arith, stands)) found.1 found.2 overlaps;
      second = λ b overlaps before.
          let found = by.all b (omega (arith, overlaps.second, head.places)) in
          let low = stands_before found.0 (j + 1) found.1 lt (subst (λ (n : ℕ). ComesBefore moved n (at (j + 1))) (sym found.2) before) in
          let high = stands_before j found.0 (omega (arith, lt)) found.1 (subst (λ (n : ℕ). ComesBefore moved (at j) n) (sym found.2) overlaps.order) in
          omega (arith, low, high);
    }

  -- the same at position i and the one before it
  pub least_at : (i k l : ℕ) → 1 ≤ i → i < length row → AreClear i → (pair_at row i).0 < (pair_at row (i - 1)).0 + size_at heap (at (i - 1)) → k ≡ at (i - 1) → l ≡ at i → IsLeastOverlap heap moved k l
  least_at i k l low lt clear inside first second =
      let next : i - 1 + 1 ≡ i = omega (arith, low) in
      let least : IsLeastOverlap heap moved (at (i - 1)) (at (i - 1 + 1)) = least_overlap (i - 1) (rw next lt) (rw next clear) (rw next inside) in
      subst (λ (n : ℕ). IsLeastOverlap heap moved n l) (sym first) (subst (λ (n : ℕ). IsLeastOverlap heap moved (at (i - 1)) n) (ap at next ∙ sym second) least)

  -- one position more
  pub clear_more : (i : ℕ) → 1 ≤ i → AreClear i → (pair_at row (i - 1)).0 + size_at heap (at (i - 1)) ≤ (pair_at row i).0 → AreClear (i + 1)
  clear_more i low clear here j lt = ⊎_elim
      (λ (before : j + 1 < i). clear j before)
      (λ (le : i ≤ j + 1).
      let same : j ≡ i - 1 = omega (arith, lt, le) in
      let next : j + 1 ≡ i = omega (arith, same, low) in
      rw (next, same) here)
      (cases_lt (j + 1) i)
