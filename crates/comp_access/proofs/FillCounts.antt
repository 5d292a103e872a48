-- The counts of used words of own pages.
use Rattle.std.proofs.Common.{◌≡◌, ℕ, zero, suc, ◌+◌, ◌*◌, ◌<◌, ◌≤◌, List, [], ◌∷◌, ◌++◌, length, get_or, sum, refl, ap, ◌∙◌, subst, arith, length-append}
use Rattle.std.proofs.Math.Nat.{mul-le-mul_left}
use Rattle.std.proofs.lemmas.List.{get_or_default}
use Rattle.std.proofs.lemmas.List.Sums.{sum_by-le}

-- a list of zeros, one longer
pub zero_pushed : (xs : List ℕ) → ((i : ℕ) → get_or xs i 0 ≡ 0) → (i : ℕ) → get_or (xs ++ 0 ∷ []) i 0 ≡ 0
zero_pushed [] h zero = refl
zero_pushed [] h (suc i) = refl
zero_pushed (x ∷ xs) h zero = h zero
zero_pushed (x ∷ xs) h (suc i) = zero_pushed xs (λ j. h (suc j)) i

pub length_pushed : (new old : List ℕ) → new ≡ old ++ 0 ∷ [] → length new ≡ length old + 1
length_pushed new old e = ap length e ∙ length-append old (0 ∷ [])

own_or_more : (number m fresh i : ℕ) → 1 ≤ m → number + i * m < fresh → i < fresh
own_or_more number m fresh i some there = let products : i * 1 ≤ i * m = mul-le-mul_left i some in omega (arith, products)

-- there are at most as many own pages as fresh pages
pub few_own : (number m fresh n : ℕ) → 1 ≤ m → ((i : ℕ) → i < n → number + i * m < fresh) → n ≤ fresh
few_own number m fresh zero some there = omega arith
few_own number m fresh (suc n) some there = let last = own_or_more number m fresh n some (there n (omega arith)) in omega (arith, last)

-- counts of at most 64 words have a small sum
pub sum_small : (xs : List ℕ) → ((i : ℕ) → i < length xs → get_or xs i 0 ≤ 64) → sum xs ≤ length xs * 64
sum_small xs h = sum_by-le (λ x. x) 64 xs (λ i d lt. subst (λ n. n ≤ 64) (get_or_default xs i 0 d lt) (h i lt))
