-- The shares of a new space's mutators, in order.
use Rattle.std.proofs.Common.{◌≡◌, ℕ, zero, suc, ◌+◌, All, List, [], ◌∷◌, length, get_or, drop, refl, sym, ap, ◌∙◌, arith}
use Rattle.std.specs.List.{range_with_len}
use Rattle.std.proofs.lemmas.List.Elements.{All-head, All-tail}
use Rattle.std.proofs.lemmas.List.Sums.{sum_by-append}
use Rattle.comp_ledger.specs.Shares.{number_of, numbers_of, posted_of, total_posted}
use Rattle.comp_ledger.specs.declared.share.Share.{Share}

-- nothing is posted in all if nothing is posted with each share
pub none_posted : {L : Type 0} (shares : List (Share L)) → All (λ (x : Share L). posted_of x ≡ 0) shares → total_posted shares ≡ 0
none_posted [] none = refl
none_posted {L} (s ∷ rest) none =
    let here = All-head (λ (x : Share L). posted_of x ≡ 0) s rest none in
    let behind = none_posted rest (All-tail (λ (x : Share L). posted_of x ≡ 0) s rest none) in
    let parts = sum_by-append (λ (x : Share L). posted_of x) (s ∷ []) rest in
    omega (arith, here, behind, parts)

-- the first of the shares that are left
pub first_share : {L : Type 0} (left rest : List (Share L)) (s : Share L) (n m : ℕ) → left ≡ s ∷ rest → numbers_of left ≡ range_with_len n m → total_posted left ≡ 0
    → (number_of s ≡ n) × (posted_of s ≡ 0)
first_share {L} left rest s n zero e number none =
    absurd (let z : length (numbers_of (s ∷ rest)) ≡ 0 = ap (λ (l : List (Share L)). length (numbers_of l)) (sym e) ∙ ap length number in omega (arith, z))
first_share {L} left rest s n (suc m) e number none =
    let all : total_posted (s ∷ rest) ≡ 0 = ap total_posted (sym e) ∙ none in
    let parts = sum_by-append (λ (x : Share L). posted_of x) (s ∷ []) rest in
    let posted : posted_of s ≡ 0 = omega (arith, all, parts) in
    (ap (λ (l : List ℕ). get_or l 0 0) (ap numbers_of (sym e) ∙ number), posted)

-- the shares after the first
pub next_shares : {L : Type 0} (left rest : List (Share L)) (s : Share L) (n m k : ℕ) → left ≡ s ∷ rest → m ≡ suc k → numbers_of left ≡ range_with_len n m → total_posted left ≡ 0
    → (numbers_of rest ≡ range_with_len (n + 1) k) × (total_posted rest ≡ 0)
next_shares {L} left rest s n m k e more number none =
    let all : total_posted (s ∷ rest) ≡ 0 = ap total_posted (sym e) ∙ none in
    let parts = sum_by-append (λ (x : Share L). posted_of x) (s ∷ []) rest in
    (ap (λ (l : List ℕ). drop 1 l) (ap numbers_of (sym e) ∙ number ∙ ap (λ j. range_with_len n j) more), omega (arith, all, parts))
