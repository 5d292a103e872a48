-- A list that contains each number below n has at least n elements.
use Rattle.std.proofs.Common.{◌≡◌, ℕ, zero, suc, ◌+◌, ◌<◌, ◌≤◌, List, [], ◌∷◌, length, get_or, Contains, sym, ◌∙◌, arith}

-- the list without its element at this index
abbrev without : List ℕ → ℕ → List ℕ
without [] i = []
without (x ∷ xs) zero = xs
without (x ∷ xs) (suc i) = x ∷ without xs i

length-without : (xs : List ℕ) (i : ℕ) → i < length xs → length (without xs i) + 1 ≡ length xs
length-without [] i lt = absurd (omega (arith, lt))
length-without (x ∷ xs) zero lt = omega arith
length-without (x ∷ xs) (suc i) lt = let rest = length-without xs i (omega (arith, lt)) in omega (arith, rest)

-- if n is removed, each number below n stays in the list
Contains-without : (xs : List ℕ) (i j n k : ℕ) → k < n → get_or xs i n ≡ n → j < length xs → get_or xs j k ≡ k → Contains (without xs i) k
Contains-without [] i j n k few at lt e = absurd (omega (arith, lt))
Contains-without (x ∷ xs) zero zero n k few at lt e = let same = sym e ∙ at in absurd (omega (arith, same, few))
Contains-without (x ∷ xs) zero (suc j) n k few at lt e = (j, omega (arith, lt), e)
Contains-without (x ∷ xs) (suc i) zero n k few at lt e = (0, omega arith, e)
Contains-without (x ∷ xs) (suc i) (suc j) n k few at lt e =
    let rest = Contains-without xs i j n k few at (omega (arith, lt)) e in
    (suc rest.0, omega (arith, rest.1), rest.2)

pub enough : (n : ℕ) (xs : List ℕ) → ((k : ℕ) → k < n → Contains xs k) → n ≤ length xs
enough zero xs has = omega arith
enough (suc n) xs has =
    let last = has n (omega arith) in
    let rest = enough n (without xs last.0) (λ k lt. let here = has k (omega (arith, lt)) in Contains-without xs last.0 here.0 n k lt last.2 here.1 here.2) in
    let long = length-without xs last.0 last.1 in
    omega (arith, rest, long)
