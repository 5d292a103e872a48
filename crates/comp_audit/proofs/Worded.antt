-- The lines of the mutators that name a page.
use Rattle.std.proofs.Common.{◌≡◌, ℕ, ◌+◌, List, [], ◌∷◌, ◌++◌, map, sym, ap, ◌∙◌, arith, append-nil}
use Rattle.std.specs.List.{flat_map, range_with_len}
use Rattle.std.proofs.lemmas.List.Concat.{flat_map-append}
use Rattle.std.proofs.lemmas.List.Folds.{flat_map-map}
use Rattle.std.proofs.lemmas.List.FromFn.{map-range_with_len_more}

-- the lines of the mutators below n, and that of n
pub lines-next : (line : ℕ → List ℕ) (n : ℕ) → flat_map line (range_with_len 0 (n + 1)) ≡ flat_map line (range_with_len 0 n) ++ line n
lines-next line n =
    let here : 0 + n ≡ n = omega arith in
    let same : (xs : List ℕ) → flat_map line (map (λ (k : ℕ). k) xs) ≡ flat_map line xs = flat_map-map line (λ (k : ℕ). k) in
    sym (same (range_with_len 0 (n + 1))) ∙ ap (flat_map line) (map-range_with_len_more (λ (k : ℕ). k) 0 n n here)
    ∙ flat_map-append line (map (λ (k : ℕ). k) (range_with_len 0 n)) (n ∷ []) ∙ ap (λ (xs : List ℕ). xs ++ (line n ++ [])) (same (range_with_len 0 n))
    ∙ ap (λ (xs : List ℕ). flat_map line (range_with_len 0 n) ++ xs) (append-nil (line n))
