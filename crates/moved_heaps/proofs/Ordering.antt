-- The sorted row of places with their numbers.
use Rattle.std.proofs.Common.{◌≡◌, ℕ, ◌+◌, ◌*◌, ◌^◌, ◌<◌, ◌≤◌, ◌≢◌, ◌⊎◌, Bool, false, eqb, List, length, get_or, refl, sym, ap, subst, ◌∙◌, inl, inr, ⊎_elim, arith, Ordering}
use Rattle.std.specs.List.{All, Contains, IsDistinct}
use Rattle.std.specs.List.Sorted.{IsPermutation, IsSorted}
use Rattle.std.specs.Ordering.{nat_cmp, ordering_then, is_lt}
use Rattle.std.proofs.lemmas.Bool.{cases_lt, both_ways, ne_eqb, eq-eqb}
use Rattle.std.proofs.lemmas.Bool.Decides.{nat_tests}
use Rattle.std.proofs.lemmas.List.{get_or_default}
use Rattle.std.proofs.lemmas.List.Sorted.{All-permutation, Contains-permutation, IsNonDecreasingBy-from_all_adjacent, length_permutation}
use Rattle.std.proofs.lemmas.Map.Keys.{IsDistinct-IsPermutation, IsDistinct-from_apart, apart_from_distinct}
use Rattle.moved_heaps.specs.Moved.{Moved}
use Rattle.moved_heaps.specs.Ordered.{pair_at, AreByPlace, IsListed}

-- how pairs are compared
abbrev pub pair_cmp : ℕ × ℕ → ℕ × ℕ → Ordering
pair_cmp x y = ordering_then (nat_cmp x.0 y.0) (nat_cmp x.1 y.1)

-- a pair as one number, if its second is small
abbrev rank : ℕ × ℕ → ℕ
rank x = 2 ^ 32 * x.0 + x.1

-- whether two pairs have the same number
abbrev same_number : ℕ × ℕ → ℕ × ℕ → Bool
same_number x y = eqb x.1 y.1

ranked : (a b c d : ℕ) → b < 2 ^ 32 → d < 2 ^ 32 → is_lt (pair_cmp (c, d) (a, b)) ≡ false → 2 ^ 32 * a + b ≤ 2 ^ 32 * c + d
ranked a b c d small few is = grind (arith, nat_tests)

-- of two pairs with different numbers that do not fall the first is lower
lower : (a b c d : ℕ) → b < 2 ^ 32 → d < 2 ^ 32 → b ≢ d → 2 ^ 32 * a + b ≤ 2 ^ 32 * c + d → (a < c) ⊎ ((a ≡ c) × (b < d))
lower a b c d small few other le = ⊎_elim
    (λ (lt : a < c). inl lt)
    (λ (ge : c ≤ a). let same : a ≡ c = omega arith in inr (same, omega arith))
    (cases_lt a c)

-- numbers that differ in a row still differ once its pairs are in another order
pub numbers_differ : (row others : List (ℕ × ℕ)) → IsPermutation row others → ((i j : ℕ) → i < j → j < length row → (pair_at row i).1 ≢ (pair_at row j).1)
    → (i j : ℕ) → i < j → j < length others → (pair_at others i).1 ≢ (pair_at others j).1
numbers_differ row others moves differ i j below lt e =
    let first : IsDistinct same_number row = IsDistinct-from_apart same_number row
    (λ k l d less inside.
    let here : get_or row k d ≡ pair_at row k = get_or_default row k d (0, 0) (omega (arith, less, inside)) in
    let later : get_or row l d ≡ pair_at row l = get_or_default row l d (0, 0) inside in
    rw (here, later) (ne_eqb (pair_at row k).1 (pair_at row l).1 (differ k l less inside))) in
    let after = IsDistinct-IsPermutation same_number (λ x y. flips x.1 y.1) row others moves first in
    both_ways (same_number (pair_at others i) (pair_at others j)) (apart_from_distinct same_number others i j (0, 0) after below lt) (eq-eqb _ _ e)
  where
    flips : (a b : ℕ) → eqb a b ≡ eqb b a
    flips a b = grind (arith, nat_tests)

module _ (places : List ℕ) (row sorted : List (ℕ × ℕ)) (listed : IsListed places row) (moves : IsPermutation row sorted) where
  -- a pair of the sorted row is a place with its number
  abbrev IsNumbered : ℕ × ℕ → Type 0
  IsNumbered x = (x.1 < length places) × (x.0 ≡ get_or places x.1 0)

  numbered : (i : ℕ) → i < length sorted → IsNumbered (pair_at sorted i)
  numbered i lt =
      let first : All IsNumbered row = λ k d inside.
      let here : get_or row k d ≡ (get_or places k 0, k) = get_or_default row k d (0, 0) inside ∙ listed.each k inside in
      subst IsNumbered (sym here) (omega (arith, inside, listed.long), refl) in
      All-permutation IsNumbered row sorted moves first i (0, 0) lt

  long : length sorted ≡ length places
  long = length_permutation row sorted moves ∙ listed.long

  -- each number is in the sorted row
  there : (k : ℕ) → k < length places → (i : ℕ) × (i < length sorted) × ((pair_at sorted i).1 ≡ k)
  there k lt =
      let x : ℕ × ℕ = (get_or places k 0, k) in
      let inside : k < length row = omega (arith, lt, listed.long) in
      let first : Contains row x = (k, inside, get_or_default row k x (0, 0) inside ∙ listed.each k inside) in
      let found = Contains-permutation row sorted x moves first in
      (found.0, found.1, ap (λ (y : ℕ × ℕ). y.1) (get_or_default sorted found.0 (0, 0) x found.1 ∙ found.2))

  -- no number is there twice
  apart : (i j : ℕ) → i < j → j < length sorted → (pair_at sorted i).1 ≢ (pair_at sorted j).1
  apart = numbers_differ row sorted moves
      (λ k l less inside e.
      let here = ap (λ (x : ℕ × ℕ). x.1) (listed.each k (omega (arith, less, inside))) in
      let later = ap (λ (x : ℕ × ℕ). x.1) (listed.each l inside) in
      omega (arith, less, e, here, later))

  pub are_by_place : (moved : Moved) → places ≡ moved.places → IsSorted pair_cmp sorted → AreByPlace moved sorted
  are_by_place moved same up =
      let numbers_small : (i : ℕ) → i < length sorted → (pair_at sorted i).1 < 2 ^ 32 = λ i lt. omega (arith, (numbered i lt).0, listed.few) in
      let rises = IsNonDecreasingBy-from_all_adjacent rank sorted
      (λ k d lt.
      let here = get_or_default sorted k d (0, 0) (omega (arith, lt)) in
      let next = get_or_default sorted (k + 1) d (0, 0) lt in
      rw (here, next) (ranked (pair_at sorted k).0 (pair_at sorted k).1 (pair_at sorted (k + 1)).0 (pair_at sorted (k + 1)).1 (numbers_small k (omega (arith, lt))) (numbers_small (k + 1) lt) (up k (0, 0) (omega arith) lt))) in
      subst (λ (ps : List ℕ). AreByPlace (record moved { places = ps }) sorted) same (record {
        long = long;
        numbers = numbered;
        all = there;
        rising = λ i j below lt. lower _ _ _ _ (numbers_small i (omega (arith, below, lt))) (numbers_small j lt) (apart i j below lt) (rises i j (0, 0) (omega (arith, below)) lt);
      })
