-- Lines that are printed one after the other.
use Rattle.std.proofs.Common.{◌≡◌, ℕ, zero, suc, ◌+◌, ◌-◌, ◌<◌, List, [], ◌∷◌, ◌++◌, length, take, drop, get_or, map, Option, Some, unwrap_or, refl, sym, ap, ◌∙◌, arith, append-nil, length-take}
use Rattle.std.specs.List.{flat_map, range_with_len, enumerate_from}
use Rattle.std.proofs.lemmas.List.{take_more, take-append-drop}
use Rattle.std.proofs.lemmas.List.Concat.{flat_map-append}

-- the numbers from a on, and one more
range-next : (a n : ℕ) → range_with_len a (suc n) ≡ range_with_len a n ++ (a + n) ∷ []
range-next a zero = let e : a ≡ a + zero = omega arith in ap (λ (x : ℕ). x ∷ []) e
range-next a (suc n) =
    let e : (a + 1) + n ≡ a + suc n = omega arith in
    ap (λ xs. a ∷ xs) (range-next (a + 1) n ∙ ap (λ (x : ℕ). range_with_len (a + 1) n ++ x ∷ []) e)

-- the lines of the numbers below n, and that of n
pub numbered-next : (line : ℕ → List ℕ) (n : ℕ) → flat_map line (range_with_len 0 (n + 1)) ≡ flat_map line (range_with_len 0 n) ++ line n
numbered-next line n =
    let more : n + 1 ≡ suc n = omega arith in
    let here : 0 + n ≡ n = omega arith in
    ap (λ (m : ℕ). flat_map line (range_with_len 0 m)) more ∙ ap (flat_map line) (range-next 0 n) ∙ flat_map-append line (range_with_len 0 n) ((0 + n) ∷ [])
    ∙ ap (λ (xs : List ℕ). flat_map line (range_with_len 0 n) ++ xs) (append-nil (line (0 + n)) ∙ ap line here)

-- the elements with their places, and one more
enumerate-next : (n : ℕ) (xs : List ℕ) (x : ℕ) → enumerate_from n (xs ++ x ∷ []) ≡ enumerate_from n xs ++ (n + length xs, x) ∷ []
enumerate-next n [] x = let e : n ≡ n + zero = omega arith in ap (λ (k : ℕ). (k, x) ∷ []) e
enumerate-next n (y ∷ xs) x =
    let e : (n + 1) + length xs ≡ n + suc (length xs) = omega arith in
    ap (λ ys. (n, y) ∷ ys) (enumerate-next (n + 1) xs x ∙ ap (λ (k : ℕ). enumerate_from (n + 1) xs ++ (k, x) ∷ []) e)

-- the lines of the first k elements, and that of the next
pub enumerated-next : (line : ℕ × ℕ → List ℕ) (xs : List ℕ) (k : ℕ) → k < length xs
    → flat_map line (enumerate_from 0 (take (k + 1) xs)) ≡ flat_map line (enumerate_from 0 (take k xs)) ++ line (k, get_or xs k 0)
enumerated-next line xs k lt =
    let here : 0 + length (take k xs) ≡ k = omega (arith, length-take k xs) in
    let first = enumerate_from 0 (take k xs) in
    ap (λ (ys : List ℕ). flat_map line (enumerate_from 0 ys)) (take_more xs k 0 lt)
    ∙ ap (flat_map line) (enumerate-next 0 (take k xs) (get_or xs k 0))
    ∙ flat_map-append line first ((0 + length (take k xs), get_or xs k 0) ∷ [])
    ∙ ap (λ (ys : List ℕ). flat_map line first ++ ys) (append-nil (line (0 + length (take k xs), get_or xs k 0)) ∙ ap (λ (j : ℕ). line (j, get_or xs k 0)) here)

-- what each element gives, if each gives something
pub each-given : (f : ℕ → Option ℕ) (xs ys : List ℕ) → map (λ y. Some y) ys ≡ map f xs → ys ≡ map (λ x. unwrap_or (f x) 0) xs
each-given f [] [] h = refl
each-given f [] (y ∷ ys) h = cc
each-given f (x ∷ xs) [] h = cc
each-given f (x ∷ xs) (y ∷ ys) h =
    let heads : Some y ≡ f x = cc in
    let tails : map (λ z. Some z) ys ≡ map f xs = cc in
    let first : y ≡ unwrap_or (f x) 0 = ap (λ (o : Option ℕ). unwrap_or o 0) heads in
    let others = each-given f xs ys tails in
    cc

-- ---- the lines of some elements among those of all

-- the numbers from a on, and then the others
range-parts : (a n m : ℕ) → range_with_len a (n + m) ≡ range_with_len a n ++ range_with_len (a + n) m
range-parts a zero m =
    let on : zero + m ≡ m = omega arith in
    let e : a ≡ a + zero = omega arith in
    ap (range_with_len a) on ∙ ap (λ (x : ℕ). range_with_len x m) e
range-parts a (suc n) m =
    let on : suc n + m ≡ suc (n + m) = omega arith in
    let e : (a + 1) + n ≡ a + suc n = omega arith in
    ap (range_with_len a) on ∙ ap (λ xs. a ∷ xs) (range-parts (a + 1) n m ∙ ap (λ (x : ℕ). range_with_len (a + 1) n ++ range_with_len x m) e)

-- the lines of the numbers below n are those of the numbers below p, that of p, and the others
pub numbered-amid : (line : ℕ → List ℕ) (p n : ℕ) → p < n
    → flat_map line (range_with_len 0 n) ≡ flat_map line (range_with_len 0 p) ++ line p ++ flat_map line (range_with_len (0 + (p + 1)) (n - (p + 1)))
numbered-amid line p n lt =
    let whole : n ≡ (p + 1) + (n - (p + 1)) = omega (arith, lt) in
    let rest = range_with_len (0 + (p + 1)) (n - (p + 1)) in
    ap (λ (m : ℕ). flat_map line (range_with_len 0 m)) whole ∙ ap (flat_map line) (range-parts 0 (p + 1) (n - (p + 1))) ∙ flat_map-append line (range_with_len 0 (p + 1)) rest
    ∙ ap (λ (l : List ℕ). l ++ flat_map line rest) (numbered-next line p)

-- the elements with their places, and then the others
enumerate-parts : (n : ℕ) (xs ys : List ℕ) → enumerate_from n (xs ++ ys) ≡ enumerate_from n xs ++ enumerate_from (n + length xs) ys
enumerate-parts n [] ys = let e : n ≡ n + zero = omega arith in ap (λ (k : ℕ). enumerate_from k ys) e
enumerate-parts n (x ∷ xs) ys =
    let e : (n + 1) + length xs ≡ n + suc (length xs) = omega arith in
    ap (λ zs. (n, x) ∷ zs) (enumerate-parts (n + 1) xs ys ∙ ap (λ (k : ℕ). enumerate_from (n + 1) xs ++ enumerate_from k ys) e)

-- the lines of all elements are those of the first k, that of the next, and the others
pub enumerated-amid : (line : ℕ × ℕ → List ℕ) (xs : List ℕ) (k : ℕ) → k < length xs
    → flat_map line (enumerate_from 0 xs)
    ≡ flat_map line (enumerate_from 0 (take k xs)) ++ line (k, get_or xs k 0) ++ flat_map line (enumerate_from (0 + length (take (k + 1) xs)) (drop (k + 1) xs))
enumerated-amid line xs k lt =
    let some = take (k + 1) xs in
    let others = drop (k + 1) xs in
    ap (λ (ys : List ℕ). flat_map line (enumerate_from 0 ys)) (sym (take-append-drop (k + 1) xs))
    ∙ ap (flat_map line) (enumerate-parts 0 some others)
    ∙ flat_map-append line (enumerate_from 0 some) (enumerate_from (0 + length some) others)
    ∙ ap (λ (l : List ℕ). l ++ flat_map line (enumerate_from (0 + length some) others)) (enumerated-next line xs k lt)

-- the same of elements without their places
pub listed-amid : {X : Type 0} (line : X → List ℕ) (xs : List X) (k : ℕ) (d : X) → k < length xs
    → flat_map line xs ≡ flat_map line (take k xs) ++ line (get_or xs k d) ++ flat_map line (drop (k + 1) xs)
listed-amid {X} line xs k d lt =
    let next : flat_map line (take (k + 1) xs) ≡ flat_map line (take k xs) ++ line (get_or xs k d) =
    ap (flat_map line) (take_more xs k d lt) ∙ flat_map-append line (take k xs) (get_or xs k d ∷ []) ∙ ap (λ (l : List ℕ). flat_map line (take k xs) ++ l) (append-nil (line (get_or xs k d))) in
    ap (flat_map line) (sym (take-append-drop (k + 1) xs)) ∙ flat_map-append line (take (k + 1) xs) (drop (k + 1) xs)
    ∙ ap (λ (l : List ℕ). l ++ flat_map line (drop (k + 1) xs)) next
