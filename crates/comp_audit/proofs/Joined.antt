-- The words of pages, joined: pages of some words are those words with zeros after them.
use Rattle.std.proofs.Common.{◌≡◌, ◌∙◌, ◌+◌, ◌-◌, ◌*◌, ◌<◌, ◌≤◌, ℕ, zero, suc, inl, inr, List, [], ◌∷◌, ◌++◌, length, take, drop, replicate, get_or, Option, None, ap, ap₂, append_assoc, arith, length-drop, refl, sym, take-append-drop}
use Rattle.std.specs.List.{flat_map, range_with_len}
use Rattle.std.proofs.Math.Seq.{take-append-add}
use Rattle.std.proofs.lemmas.Bool.{cases_lt}
use Rattle.std.proofs.lemmas.List.{drop_all, drop-drop, drop-replicate, nil_from_length, take-append-le, take-replicate}
use Rattle.comp_dump.specs.Dumped.{BuiltPage}
use Rattle.comp_audit.specs.WholeAudit.{words_of}

-- the words of the first pages are those of each of them
pub joined_from : (f : ℕ → List ℕ) (a n : ℕ) (records : List (Option BuiltPage)) → n ≤ length records → ((k : ℕ) → k < n → words_of (get_or records k None) ≡ f (a + k))
    → flat_map words_of (take n records) ≡ flat_map f (range_with_len a n)
joined_from f a zero records few same = refl
joined_from f a (suc n) [] few same = absurd (omega (arith, few))
joined_from f a (suc n) (x ∷ xs) few same =
    ap₂ ◌++◌ (same 0 (omega arith) ∙ ap f (omega arith))
    (joined_from f (a + 1) n xs (omega (arith, few)) (λ k lt. same (suc k) (omega (arith, lt)) ∙ ap f (omega arith)))

-- the same lists for each number of a range are joined to the same
pub range_same : (f g : ℕ → List ℕ) (a n : ℕ) → ((k : ℕ) → k < a + n → f k ≡ g k) → flat_map f (range_with_len a n) ≡ flat_map g (range_with_len a n)
range_same f g a zero same = refl
range_same f g a (suc n) same = ap₂ ◌++◌ (same a (omega arith)) (range_same f g (a + 1) n (λ k lt. same k (omega (arith, lt))))

-- zeros after zeros
zeros_joined : (a b : ℕ) → replicate {A = ℕ} a 0 ++ replicate {A = ℕ} b 0 ≡ replicate {A = ℕ} (a + b) 0
zeros_joined a b =
    let all : List ℕ = replicate (a + b) 0 in
    ap₂ ◌++◌ (sym (take-replicate a (a + b) 0 (omega arith))) (ap (λ (n : ℕ). replicate n 0) (omega arith) ∙ sym (drop-replicate a (a + b) 0)) ∙ take-append-drop a all

-- the first page of some words, and then the rest of them
one_page : (words : List ℕ) (n : ℕ) → length words ≤ 64 * (n + 1)
    → take 64 (words ++ replicate 64 0) ++ (drop 64 words ++ replicate (64 * n - length (drop 64 words)) 0) ≡ words ++ replicate (64 * (n + 1) - length words) 0
one_page words n few =
    let zeros : List ℕ = replicate 64 0 in
    let left : length (drop 64 words) ≡ length words - 64 = length-drop 64 words in
    elim (cases_lt (length words) 64) [
      | inl short ↦
          let none : drop 64 words ≡ [] = drop_all 64 words (omega (arith, short)) in
          let sum : 64 ≡ length words + (64 - length words) = omega (arith, short) in
          let front : take 64 (words ++ zeros) ≡ words ++ replicate (64 - length words) 0 =
          ap (λ (k : ℕ). take k (words ++ zeros)) sum ∙ take-append-add words zeros (64 - length words) ∙ ap (λ (l : List ℕ). words ++ l) (take-replicate (64 - length words) 64 0 (omega arith)) in
          let back : drop 64 words ++ replicate (64 * n - length (drop 64 words)) 0 ≡ replicate (64 * n) 0 =
          ap (λ (l : List ℕ). l ++ replicate (64 * n - length l) 0) none ∙ ap (λ (k : ℕ). replicate {A = ℕ} k 0) (omega arith) in
          ap₂ ◌++◌ front back ∙ append_assoc words (replicate (64 - length words) 0) (replicate (64 * n) 0)
          ∙ ap (λ (l : List ℕ). words ++ l) (zeros_joined (64 - length words) (64 * n) ∙ ap (λ (k : ℕ). replicate k 0) (omega (arith, short)))
      | inr long ↦
          ap (λ (l : List ℕ). l ++ (drop 64 words ++ replicate (64 * n - length (drop 64 words)) 0)) (take-append-le 64 words zeros long)
          ∙ sym (append_assoc (take 64 words) (drop 64 words) (replicate (64 * n - length (drop 64 words)) 0))
          ∙ ap₂ ◌++◌ (take-append-drop 64 words) (ap (λ (k : ℕ). replicate k 0) (omega (arith, left, long, few)))
    ]

-- n pages of some words, from page a on
pages_from : (words : List ℕ) (a n : ℕ) → length (drop (64 * a) words) ≤ 64 * n
    → flat_map (λ (p : ℕ). take 64 (drop (64 * p) words ++ replicate 64 0)) (range_with_len a n) ≡ drop (64 * a) words ++ replicate (64 * n - length (drop (64 * a) words)) 0
pages_from words a zero few =
    let none : drop (64 * a) words ≡ [] = nil_from_length (drop (64 * a) words) (omega (arith, few)) in
    sym (ap (λ (l : List ℕ). l ++ replicate (64 * 0 - length l) 0) none)
pages_from words a (suc n) few =
    let rest : List ℕ = drop (64 * a) words in
    let next : drop (64 * (a + 1)) words ≡ drop 64 rest = ap (λ (k : ℕ). drop k words) (omega arith) ∙ sym (drop-drop 64 (64 * a) words) in
    let fewer : length (drop (64 * (a + 1)) words) ≤ 64 * n = omega (arith, ap length next, length-drop 64 rest, few) in
    ap (λ (l : List ℕ). take 64 (rest ++ replicate 64 0) ++ l)
    (pages_from words (a + 1) n fewer ∙ ap (λ (l : List ℕ). l ++ replicate (64 * n - length l) 0) next)
    ∙ one_page rest n (omega (arith, few)) ∙ ap (λ (k : ℕ). rest ++ replicate (k - length rest) 0) (omega arith)

-- all pages of some words are those words, with zeros after them
pub all_pages : (words : List ℕ) (n : ℕ) → length words ≤ 64 * n
    → flat_map (λ (p : ℕ). take 64 (drop (64 * p) words ++ replicate 64 0)) (range_with_len 0 n) ≡ words ++ replicate (64 * n - length words) 0
all_pages words n few = pages_from words 0 n few
