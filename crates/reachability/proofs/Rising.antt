-- Lists that rise.
use Rattle.std.proofs.Common.{◌≡◌, ℕ, suc, ◌+◌, ◌<◌, ◌≤◌, true, false, eqb, List, [], ◌∷◌, inl, inr, length, get_or, Contains, refl, sym, ap, subst, ◌∙◌, arith}
use Rattle.std.specs.List.Sorted.{IsStrictlyIncreasing}
use Rattle.std.specs.Cmp.{nat_eq_equiv}
use Rattle.std.proofs.lemmas.Bool.{eqb-true, le-leb, or_cases}
use Rattle.std.proofs.lemmas.Map.Views.{Contains-from_any, list_any-from_Contains}
use Rattle.heap_layout.specs.Heap.{is_start}
use Rattle.heap_layout.specs.Faults.{mark_faults}
use Rattle.reachability.specs.Queue.{has}
use Rattle.reachability.proofs.Queues.{has-first, has-later}

-- what a list has, it contains
pub contains-had : (xs : List ℕ) (i : ℕ) → has xs i ≡ true → Contains xs i
contains-had xs i there = Contains-from_any (λ x y q. eqb-true x y q) i xs there

-- and what it contains, it has
pub has-contained : (xs : List ℕ) (i : ℕ) → Contains xs i → has xs i ≡ true
has-contained xs i there = list_any-from_Contains nat_eq_equiv i xs there

-- each number of the list is above the one before it, and the first is not below `low`
abbrev pub Rises : ℕ → List ℕ → Type 0
Rises low [] = Unit {0}
Rises low (x ∷ xs) = (low ≤ x) × Rises (x + 1) xs

pub rises : (low : ℕ) (xs : List ℕ) → IsStrictlyIncreasing xs → (0 < length xs → low ≤ get_or xs 0 0) → Rises low xs
rises low [] rising first = tt
rises low (x ∷ xs) rising first =
    let rest : IsStrictlyIncreasing xs = λ k within.
    let index : suc k + 1 ≡ suc (k + 1) = omega arith in
    rw index at (rising (suc k) (omega arith)) in
    let next : 0 < length xs → x + 1 ≤ get_or xs 0 0 = λ some. (let more = rising 0 (omega arith) in omega arith) in
    (first (omega arith), rises (x + 1) xs rest next)

-- its numbers are not below `low`
pub rises-above : (low : ℕ) (xs : List ℕ) (i : ℕ) → Rises low xs → has xs i ≡ true → low ≤ i
rises-above low [] i rising there = absurd (let no : false ≡ true = there in cc)
rises-above low (x ∷ xs) i rising there =
    let above = rising.0 in
    elim (or_cases (eqb i x) (has xs i) there) [
      | inl here ↦ let same : i ≡ x = eqb-true i x here in omega arith
      | inr later ↦ let more = rises-above (x + 1) xs i rising.1 later in omega arith
    ]

-- what one of two lists has later, the other has later
same-later : (x : ℕ) (xs ys : List ℕ) → Rises (x + 1) xs → ((i : ℕ) → has (x ∷ xs) i ≡ true → has (x ∷ ys) i ≡ true) → (i : ℕ) → has xs i ≡ true → has ys i ≡ true
same-later x xs ys rising all i there =
    elim (or_cases (eqb i x) (has ys i) (all i (has-later x i xs there))) [
      | inl here ↦ absurd (let same : i ≡ x = eqb-true i x here in let above = rises-above (x + 1) xs i rising there in omega arith)
      | inr later ↦ later
    ]

-- the first numbers of two lists that have the same ones are the same
same-first : (low x y : ℕ) (xs ys : List ℕ) → Rises low (x ∷ xs) → Rises low (y ∷ ys) → has (y ∷ ys) x ≡ true → has (x ∷ xs) y ≡ true → x ≡ y
same-first low x y xs ys left right there back =
    elim (or_cases (eqb x y) (has ys x) there) [
      | inl here ↦ eqb-true x y here
      | inr later ↦ elim (or_cases (eqb y x) (has xs y) back) [
        | inl here ↦ sym (eqb-true y x here)
        | inr other ↦ absurd (let above = rises-above (y + 1) ys x right.1 later in let below = rises-above (x + 1) xs y left.1 other in omega arith)
      ]
    ]

-- two lists that rise and have the same numbers are one
pub rises-same : (low : ℕ) (xs ys : List ℕ) → Rises low xs → Rises low ys → ((i : ℕ) → has xs i ≡ true → has ys i ≡ true) → ((i : ℕ) → has ys i ≡ true → has xs i ≡ true) → xs ≡ ys
rises-same low [] [] left right all back = refl
rises-same low [] (y ∷ ys) left right all back = absurd (let no : false ≡ true = back y (has-first y ys) in cc)
rises-same low (x ∷ xs) [] left right all back = absurd (let no : false ≡ true = all x (has-first x xs) in cc)
rises-same low (x ∷ xs) (y ∷ ys) left right all back =
    let first : x ≡ y = same-first low x y xs ys left right (all x (has-first x xs)) (back y (has-first y ys)) in
    let right_here : Rises (x + 1) ys = subst (λ (n : ℕ). Rises (n + 1) ys) (sym first) right.1 in
    let all_here : (i : ℕ) → has (x ∷ xs) i ≡ true → has (x ∷ ys) i ≡ true = λ i there. subst (λ (n : ℕ). has (n ∷ ys) i ≡ true) (sym first) (all i there) in
    let back_here : (i : ℕ) → has (x ∷ ys) i ≡ true → has (x ∷ xs) i ≡ true = λ i there. back i (subst (λ (n : ℕ). has (n ∷ ys) i ≡ true) first there) in
    let rest : xs ≡ ys = rises-same (x + 1) xs ys left.1 right_here (same-later x xs ys left.1 all_here) (same-later x ys xs right_here back_here) in
    ap (λ (n : ℕ). n ∷ xs) first ∙ ap (λ (list : List ℕ). y ∷ list) rest

-- a list of numbers below n is no longer than n
pub rises-short : (low n : ℕ) (xs : List ℕ) → Rises low xs → low ≤ n → ((i : ℕ) → has xs i ≡ true → i < n) → length xs + low ≤ n
rises-short low n [] rising order below = omega arith
rises-short low n (x ∷ xs) rising order below =
    let here : x < n = below x (has-first x xs) in
    let more = rises-short (x + 1) n xs rising.1 (omega arith) (λ i there. below i (has-later x i xs there)) in
    let above = rising.0 in
    omega arith

-- marks that rise, at starts of objects, have no fault
pub rises-marked : (row : List ℕ) (low : ℕ) (marks : List ℕ) → Rises low marks → ((i : ℕ) → has marks i ≡ true → is_start row i ≡ true) → mark_faults row low marks ≡ []
rises-marked row low [] rising started = refl
rises-marked row low (mark ∷ marks) rising started =
    rw (le-leb low mark rising.0, started mark (has-first mark marks)) (rises-marked row (mark + 1) marks rising.1 (λ i there. started i (has-later mark i marks there)))
