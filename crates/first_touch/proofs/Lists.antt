-- Lists that change at one place.
use Rattle.std.proofs.Common.{◌≡◌, ℕ, zero, suc, ◌<◌, List, [], ◌∷◌, length, replicate, get_or, set, refl, sym, ap, arith, get_or-set_same}
use mathlib.Core.Option.{some, some-injective, some-ne-none}
use lib.ListN.{get_elem?}

-- the word that changes
pub changed : (words : List ℕ) (k n : ℕ) → k < length words → get_or (set words k n) k 0 ≡ n
changed words k n inside = get_or-set_same words k n 0 inside

-- a word is written as it is
pub set_same : (words : List ℕ) (k : ℕ) → k < length words → set words k (get_or words k 0) ≡ words
set_same [] k lt = absurd (omega (arith, lt))
set_same (x ∷ xs) zero lt = refl
set_same (x ∷ xs) (suc k) lt = ap (λ (ws : List ℕ). x ∷ ws) (set_same xs k (omega (arith, lt)))

-- an element is within its list
pub at_inside : {A : Type 0} (xs : List A) (k : ℕ) (a : A) → get_elem? xs k ≡ some a → k < length xs
at_inside [] k a at = absurd (some-ne-none a (sym at))
at_inside (x ∷ xs) zero a at = omega arith
at_inside (x ∷ xs) (suc k) a at = let within = at_inside xs k a at in omega (arith, within)

-- the only element
pub only : {A : Type 0} (a b : A) (k : ℕ) → get_elem? (a ∷ []) k ≡ some b → a ≡ b
only a b zero at = some-injective a b at
only a b (suc k) at = absurd (some-ne-none b (sym at))

-- words that are all 0
pub all_zero : (n k : ℕ) → ◌≡◌ {A = ℕ} (get_or (replicate {A = ℕ} n 0) k 0) 0
all_zero zero k = refl
all_zero (suc n) zero = refl
all_zero (suc n) (suc k) = all_zero n k
