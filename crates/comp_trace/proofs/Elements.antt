-- Elements of lists, by their indices.
use Rattle.std.proofs.Common.{◌≡◌, ℕ, zero, suc, ◌<◌, drop, List, [], ◌∷◌, ◌++◌, length, take, get_or, refl, ap, ◌∙◌, arith}
use mathlib.Core.Option.{some}
use lib.ListN.{get_elem?}

-- the element at an index
pub at_or : {A : Type 0} (l : List A) (i : ℕ) (d : A) → i < length l → get_elem? l i ≡ some (get_or l i d)
at_or [] i d lt = absurd (omega arith)
at_or (x ∷ xs) zero d lt = refl
at_or (x ∷ xs) (suc i) d lt = at_or xs i d (omega arith)

-- the first elements of a list that has a beginning
pub take_first : {A : Type 0} (front rest : List A) → take (length front) (front ++ rest) ≡ front
take_first [] rest = refl
take_first (x ∷ xs) rest = ap (λ l. x ∷ l) (take_first xs rest)

-- a Vec whose elements were written through a slice
pub written_back : {A : Type 0} (n : ℕ) (new old : List A) → n ≡ length new → take n (new ++ drop (length new) old) ≡ new
written_back n new old e = ap (λ k. take k (new ++ drop (length new) old)) e ∙ take_first new (drop (length new) old)
