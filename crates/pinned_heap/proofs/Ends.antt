-- Where live words end when they have slid around those that stay: word by word, and by the bits of a block.
use Rattle.std.proofs.Common.{◌≡◌, ℕ, zero, suc, ◌+◌, ◌-◌, ◌*◌, ◌/◌, ◌%◌, ◌^◌, ◌<◌, ◌≤◌, ◌==◌, Bool, true, false, cond, w64, List, [], ◌∷◌, length, get_or, count_ones, inl, inr, refl, sym, ap, ◌∙◌, arith, length-append}
use Rattle.std.specs.Int.{bit_at, leading_zeros}
use Rattle.std.proofs.lemmas.Bool.{cases_lt}
use Rattle.std.proofs.lemmas.Nat.{field_of, mod-pow-add, mod_below, ones_cat, pow_pos, shr_split}
use Rattle.std.proofs.lemmas.Nat.Bits.{bit_at-zero, bit_at_above, bit_at_cat_low}
use Rattle.heap_layout.specs.Bits.{bit}
use Rattle.mark_tables.specs.MarkBitmap.{passing}
use Rattle.mark_tables.proofs.Counting.{passing-block}
use Rattle.rest_marks.proofs.Starting.{last-bit}
use Rattle.pinned_heap.specs.Tables.{end_below, place_at, place_by}

-- ---- word by word

step-low : (stays live : Bool) (i end : ℕ) → end ≤ i → cond stays i end + cond live 1 0 ≤ suc i
step-low true true i end low = omega arith
step-low true false i end low = omega arith
step-low false true i end low = omega (arith, low)
step-low false false i end low = omega (arith, low)

-- no word goes up
pub end-low : (live staying : ℕ → Bool) (i : ℕ) → end_below live staying i ≤ i
end-low live staying zero = omega arith
end-low live staying (suc i) = step-low (staying i) (live i) i (end_below live staying i) (end-low live staying i)

at-low : (stays : Bool) (i end : ℕ) → end ≤ i → cond stays i end ≤ i
at-low true i end low = omega arith
at-low false i end low = low

pub place-low : (live staying : ℕ → Bool) (i : ℕ) → place_at live staying i ≤ i
place-low live staying i = at-low (staying i) i (end_below live staying i) (end-low live staying i)

-- one word more
length-last : (b : Bool) (n : ℕ) → length (cond b (n ∷ []) []) ≡ cond b 1 0
length-last true n = refl
length-last false n = refl

passing-next : (live : ℕ → Bool) (n : ℕ) → length (passing live (suc n)) ≡ length (passing live n) + cond (live n) 1 0
passing-next live n = omega (arith, length-append (passing live n) (cond (live n) (n ∷ []) []), length-last (live n) n)

end-next : (live staying : ℕ → Bool) (i : ℕ) → staying i ≡ false → end_below live staying (suc i) ≡ end_below live staying i + cond (live i) 1 0
end-next live staying i none = ap (λ (b : Bool). cond b i (end_below live staying i) + cond (live i) 1 0) none

end-here : (live staying : ℕ → Bool) (i : ℕ) → staying i ≡ true → end_below live staying (suc i) ≡ i + cond (live i) 1 0
end-here live staying i here = ap (λ (b : Bool). cond b i (end_below live staying i) + cond (live i) 1 0) here

-- none of the k words from a on stays
pub end-plain : (live staying : ℕ → Bool) (a k : ℕ) → ((j : ℕ) → a ≤ j → j < a + k → staying j ≡ false)
    → end_below live staying (a + k) + length (passing live a) ≡ end_below live staying a + length (passing live (a + k))
end-plain live staying a zero none =
    let e : a + 0 ≡ a = omega arith in
    omega (arith, ap (end_below live staying) e, ap (λ (n : ℕ). length (passing live n)) e)
end-plain live staying a (suc k) none =
    let e : a + suc k ≡ suc (a + k) = omega arith in
    let before = end-plain live staying a k (λ j from lt. none j from (omega (arith, lt))) in
    let next = end-next live staying (a + k) (none (a + k) (omega arith) (omega arith)) in
    omega (arith, ap (end_below live staying) e, ap (λ (n : ℕ). length (passing live n)) e, before, next, passing-next live (a + k))

-- word a stays, and none of the k words behind it
pub end-stay : (live staying : ℕ → Bool) (a k : ℕ) → staying a ≡ true → ((j : ℕ) → a < j → j < a + suc k → staying j ≡ false)
    → end_below live staying (a + suc k) + length (passing live a) ≡ a + length (passing live (a + suc k))
end-stay live staying a zero here none =
    let e : a + 1 ≡ suc a = omega arith in
    omega (arith, ap (end_below live staying) e, ap (λ (n : ℕ). length (passing live n)) e, end-here live staying a here, passing-next live a)
end-stay live staying a (suc k) here none =
    let e : a + suc (suc k) ≡ suc (a + suc k) = omega arith in
    let before = end-stay live staying a k here (λ j from lt. none j from (omega (arith, lt))) in
    let next = end-next live staying (a + suc k) (none (a + suc k) (omega arith) (omega arith)) in
    omega (arith, ap (end_below live staying) e, ap (λ (n : ℕ). length (passing live n)) e, before, next, passing-next live (a + suc k))

-- ---- by the bits of a block

-- the bits of block b
at-place : (bits : List ℕ) (b k : ℕ) → k < 64 → bit bits (64 * b + k) ≡ (bit_at (get_or bits b 0) k == 1)
at-place bits b k lt =
    let block : (64 * b + k) / 64 ≡ b = omega (arith, lt) in
    let place : (64 * b + k) % 64 ≡ k = omega (arith, lt) in
    ap (λ (n : ℕ). bit_at (get_or bits n 0) ((64 * b + k) % 64) == 1) block ∙ ap (λ (n : ℕ). bit_at (get_or bits b 0) n == 1) place

unset : (bits : List ℕ) (b j : ℕ) → 64 * b ≤ j → j < 64 * b + 64 → bit_at (get_or bits b 0) (j - 64 * b) ≡ 0 → bit bits j ≡ false
unset bits b j from lt none =
    let e : j ≡ 64 * b + (j - 64 * b) = omega (arith, from) in
    ap (bit bits) e ∙ at-place bits b (j - 64 * b) (omega (arith, from, lt)) ∙ ap (λ (n : ℕ). n == 1) none

-- the bits from s up to k
ones-between : (block s k : ℕ) → s ≤ k → count_ones (block % 2 ^ k / 2 ^ s) + count_ones (block % 2 ^ s) ≡ count_ones (block % 2 ^ k)
ones-between block s k le =
    let j = k - s in
    let e : k ≡ j + s = omega (arith, le) in
    let parts = mod-pow-add block j s in
    let field = field_of block j s in
    let low : block % 2 ^ s < 2 ^ s = mod_below block (2 ^ s) (pow_pos s) in
    let both = ones_cat s (block / 2 ^ s % 2 ^ j) (block % 2 ^ s) low in
    let whole : count_ones (block % 2 ^ k) ≡ count_ones (block / 2 ^ s % 2 ^ j) + count_ones (block % 2 ^ s) = ap (λ (n : ℕ). count_ones (block % 2 ^ n)) e ∙ ap count_ones parts ∙ both in
    let high : count_ones (block % 2 ^ k / 2 ^ s) ≡ count_ones (block / 2 ^ s % 2 ^ j) = ap (λ (n : ℕ). count_ones (block % 2 ^ n / 2 ^ s)) e ∙ ap count_ones field in
    omega (arith, whole, high)

module _ (bits stays : List ℕ) (b : ℕ) where
  abbrev block : ℕ
  block = get_or bits b 0

  abbrev stay : ℕ
  stay = get_or stays b 0

  abbrev end : ℕ → ℕ
  end i = end_below (bit bits) (bit stays) i

  -- nothing stays below word k of the block
  pub block-plain : (k : ℕ) → k ≤ 64 → ((j : ℕ) → j < k → bit_at stay j ≡ 0) → end (64 * b + k) ≡ end (64 * b) + count_ones (block % 2 ^ k)
  block-plain k le none =
      let ends = end-plain (bit bits) (bit stays) (64 * b) k (λ j from lt. unset stays b j from (omega (arith, lt, le)) (none (j - 64 * b) (omega (arith, from, lt)))) in
      omega (arith, ends, passing-block bits b k le)

  -- the last one below word k of the block that stays is word s
  pub block-stay : (s k : ℕ) → s < k → k ≤ 64 → bit_at stay s ≡ 1 → ((j : ℕ) → s < j → j < k → bit_at stay j ≡ 0)
      → end (64 * b + k) ≡ 64 * b + s + count_ones (block % 2 ^ k / 2 ^ s)
  block-stay s k lt le here none =
      let m = k - s - 1 in
      let a = 64 * b + s in
      let e : 64 * b + k ≡ a + suc m = omega (arith, lt) in
      let set : bit stays a ≡ true = at-place stays b s (omega (arith, lt, le)) ∙ ap (λ (n : ℕ). n == 1) here in
      let ends = end-stay (bit bits) (bit stays) a m set (λ j from below. unset stays b j (omega (arith, from)) (omega (arith, below, e, le)) (none (j - 64 * b) (omega (arith, from)) (omega (arith, from, below, e)))) in
      let ends_k : end (64 * b + k) + length (passing (bit bits) a) ≡ a + length (passing (bit bits) (64 * b + k)) =
      rw e ends in
      omega (arith, ends_k, passing-block bits b k le, passing-block bits b s (omega (arith, lt, le)), ones-between block s k (omega (arith, lt)))

  -- behind the block
  next-block : 64 * (b + 1) ≡ 64 * b + 64
  next-block = omega arith

  whole : (n : ℕ) → n < 2 ^ 64 → n % 2 ^ 64 ≡ n
  whole n small = omega (arith, small)

  pub end-behind-plain : block < 2 ^ 64 → stay ≡ 0 → end (64 * (b + 1)) ≡ end (64 * b) + count_ones block
  end-behind-plain small empty =
      ap (λ (n : ℕ). end n) next-block ∙ block-plain 64 (omega arith) (λ j lt. ap (λ (n : ℕ). bit_at n j) empty ∙ bit_at-zero j)
      ∙ ap (λ (n : ℕ). end (64 * b) + count_ones n) (whole block small)

  pub end-behind-stay : block < 2 ^ 64 → stay < 2 ^ 64 → 0 < stay → end (64 * (b + 1)) ≡ 64 * b + (63 - leading_zeros w64 stay) + count_ones (block / 2 ^ (63 - leading_zeros w64 stay))
  end-behind-stay small small_stay some =
      let last = last-bit stay some small_stay in
      let s = 63 - leading_zeros w64 stay in
      ap (λ (n : ℕ). end n) next-block ∙ block-stay s 64 (omega arith) (omega arith) last.0 (λ j above lt. last.1 j above)
      ∙ ap (λ (n : ℕ). 64 * b + s + count_ones (n / 2 ^ s)) (whole block small)

  -- the bits of those that stay, up to bit k
  low-bit : (k j : ℕ) → j < suc k → bit_at stay j ≡ bit_at (stay % 2 ^ suc k) j
  low-bit k j lt = ap (λ (n : ℕ). bit_at n j) (sym (shr_split stay (suc k))) ∙ bit_at_cat_low (stay / 2 ^ suc k) (suc k) (stay % 2 ^ suc k) j lt

  -- where word k of the block goes, if nothing stays up to it
  pub place-plain : (k : ℕ) → k < 64 → stay % 2 ^ suc k ≡ 0 → place_by bits stays (64 * b + k) ≡ end (64 * b) + count_ones (block % 2 ^ k)
  place-plain k lt empty =
      let none : (j : ℕ) → j < suc k → bit_at stay j ≡ 0 = λ j below. low-bit k j below ∙ ap (λ (n : ℕ). bit_at n j) empty ∙ bit_at-zero j in
      let here : bit stays (64 * b + k) ≡ false = at-place stays b k lt ∙ ap (λ (n : ℕ). n == 1) (none k (omega arith)) in
      ap (λ (t : Bool). cond t (64 * b + k) (end (64 * b + k))) here ∙ block-plain k (omega (arith, lt)) (λ j below. none j (omega (arith, below)))

  -- where it goes, if word s is the last one up to it that stays
  place-behind : (s k : ℕ) → s ≤ k → k < 64 → bit_at stay s ≡ 1 → ((j : ℕ) → s < j → j < suc k → bit_at stay j ≡ 0)
      → place_by bits stays (64 * b + k) ≡ 64 * b + s + count_ones (block % 2 ^ k / 2 ^ s)
  place-behind s k le lt here none = elim (cases_lt s k) [
    | inl below ↦
        let off : bit stays (64 * b + k) ≡ false = at-place stays b k lt ∙ ap (λ (n : ℕ). n == 1) (none k below (omega arith)) in
        ap (λ (t : Bool). cond t (64 * b + k) (end (64 * b + k))) off ∙ block-stay s k below (omega (arith, lt)) here (λ j above under. none j above (omega (arith, under)))
    | inr above ↦
        let same : s ≡ k = omega (arith, le, above) in
        let on : bit stays (64 * b + k) ≡ true = at-place stays b k lt ∙ ap (λ (n : ℕ). bit_at stay n == 1) (sym same) ∙ ap (λ (n : ℕ). n == 1) here in
        let alone : count_ones (block % 2 ^ k / 2 ^ k) ≡ 0 = let full = ones-between block k k (omega arith) in omega (arith, full) in
        let ones : count_ones (block % 2 ^ k / 2 ^ s) ≡ 0 = ap (λ (n : ℕ). count_ones (block % 2 ^ k / 2 ^ n)) same ∙ alone in
        ap (λ (t : Bool). cond t (64 * b + k) (end (64 * b + k))) on ∙ omega (arith, same, ones)
  ]

  pub last-inside : (k : ℕ) → k < 64 → 0 < stay % 2 ^ suc k → stay % 2 ^ suc k < 2 ^ 64 → 63 - leading_zeros w64 (stay % 2 ^ suc k) ≤ k
  last-inside k lt some small =
      let s = 63 - leading_zeros w64 (stay % 2 ^ suc k) in
      let last = last-bit (stay % 2 ^ suc k) some small in
      elim (cases_lt k s) [
        | inl past ↦ absurd (
            let above = bit_at_above (stay % 2 ^ suc k) (suc k) s (mod_below stay (2 ^ suc k) (pow_pos (suc k))) (omega (arith, past)) in
            omega (arith, above, last.0))
        | inr le ↦ le
      ]

  pub place-stay : (k : ℕ) → k < 64 → 0 < stay % 2 ^ suc k → stay % 2 ^ suc k < 2 ^ 64
      → place_by bits stays (64 * b + k) ≡ 64 * b + (63 - leading_zeros w64 (stay % 2 ^ suc k)) + count_ones (block % 2 ^ k / 2 ^ (63 - leading_zeros w64 (stay % 2 ^ suc k)))
  place-stay k lt some small =
      let s = 63 - leading_zeros w64 (stay % 2 ^ suc k) in
      let last = last-bit (stay % 2 ^ suc k) some small in
      let le = last-inside k lt some small in
      place-behind s k le lt (low-bit k s (omega (arith, le)) ∙ last.0) (λ j above below. low-bit k j below ∙ last.1 j above)
