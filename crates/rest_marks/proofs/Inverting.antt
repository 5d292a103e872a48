-- The bits that are not set.
use Rattle.std.proofs.Common.{◌≡◌, ◌≢◌, ℕ, ◌+◌, ◌*◌, ◌/◌, ◌%◌, ◌^◌, ◌<◌, ◌≤◌, true, false, w64, List, [], ◌∷◌, ◌++◌, length, get_or, inl, inr, refl, ap, subst, ◌∙◌, arith, length-append}
use Rattle.std.specs.Int.{bit_at, bit_not, trailing_zeros}
use Rattle.std.proofs.Math.ListN.{get_or-append}
use Rattle.std.proofs.Math.Seq.{get_or-append_seam}
use Rattle.std.proofs.lemmas.Bool.{cases_lt, eqb-false}
use Rattle.std.proofs.lemmas.Nat.Bits.{bit_at_not, bit_at-lt, bit_at-trailing_zeros, bit_at-zero}
use Rattle.heap_layout.specs.Bits.{bit}
use Rattle.rest_marks.proofs.Bounding.{bit-inside}
use Rattle.rest_marks.proofs.RunBlocks.{bit-one, one-bit, zero-bit}

-- the first n of these blocks have the bits that are not set in those
pub record AreInverted (bits others : List ℕ) (n : ℕ) : Type 0 where
  pub long : length others ≡ n
  pub each : (b : ℕ) → b < n → get_or others b 0 ≡ bit_not w64 (get_or bits b 0)

pub inverted-more : (bits others : List ℕ) (n : ℕ) → AreInverted bits others n → AreInverted bits (others ++ bit_not w64 (get_or bits n 0) ∷ []) (n + 1)
inverted-more bits others n are =
    let more = bit_not w64 (get_or bits n 0) in
    record {
      long = omega (arith, are.long, length-append others (more ∷ []));
      each = λ b lt. elim (cases_lt b n) [
        | inl old ↦ get_or-append others (more ∷ []) 0 b (omega (arith, old, are.long)) ∙ are.each b old
        | inr last ↦
            let here : b ≡ length others = omega (arith, lt, last, are.long) in
            let there : n ≡ b = omega (arith, lt, last) in
            ap (λ (k : ℕ). get_or (others ++ more ∷ []) k 0) here ∙ get_or-append_seam others more [] 0 ∙ ap (λ (k : ℕ). bit_not w64 (get_or bits k 0)) there
      ];
    }

-- a bit that is not set
pub bit-none : (bits : List ℕ) (j : ℕ) → bit bits j ≡ false → bit_at (get_or bits (j / 64) 0) (j % 64) ≡ 0
bit-none bits j unset =
    let block = get_or bits (j / 64) 0 in
    let other : bit_at block (j % 64) ≢ 1 = eqb-false (bit_at block (j % 64)) 1 unset in
    omega (arith, other, bit_at-lt block (j % 64))

pub inverted-set : (bits others : List ℕ) → ((b : ℕ) → get_or bits b 0 < 2 ^ 64) → AreInverted bits others (length bits) → (j : ℕ) → j < 64 * length bits
    → bit bits j ≡ false → bit others j ≡ true
inverted-set bits others small are j lt unset =
    let b = j / 64 in
    let block = get_or bits b 0 in
    let here = are.each b (omega (arith, lt)) in
    let none = bit-none bits j unset in
    let one : bit_at (bit_not w64 block) (j % 64) ≡ 1 = omega (arith, bit_at_not w64 block (j % 64) (small b) (omega arith), none) in
    one-bit others b j refl (ap (λ (n : ℕ). bit_at n (j % 64)) here ∙ one)

pub inverted-unset : (bits others : List ℕ) → ((b : ℕ) → get_or bits b 0 < 2 ^ 64) → AreInverted bits others (length bits) → (j : ℕ)
    → bit bits j ≡ true → bit others j ≡ false
inverted-unset bits others small are j set =
    let b = j / 64 in
    let block = get_or bits b 0 in
    let here = are.each b (omega (arith, bit-inside bits j set)) in
    let one = bit-one bits b j refl set in
    let none : bit_at (bit_not w64 block) (j % 64) ≡ 0 = omega (arith, bit_at_not w64 block (j % 64) (small b) (omega arith), one) in
    zero-bit others b j refl (ap (λ (n : ℕ). bit_at n (j % 64)) here ∙ none)

-- a block with a bit that is not set
pub unset-there : (bits : List ℕ) (b : ℕ) → get_or bits b 0 < 2 ^ 64 → bit_not w64 (get_or bits b 0) < 2 ^ 64 → 0 < bit_not w64 (get_or bits b 0)
    → bit bits (64 * b + trailing_zeros w64 (bit_not w64 (get_or bits b 0))) ≡ false
unset-there bits b small others_small some =
    let block = get_or bits b 0 in
    let lowest = bit_at-trailing_zeros w64 (bit_not w64 block) some others_small in
    let t = trailing_zeros w64 (bit_not w64 block) in
    let within : t < 64 = lowest.0 in
    let at : (64 * b + t) / 64 ≡ b = omega (arith, within) in
    let low : t ≡ (64 * b + t) % 64 = omega (arith, within) in
    let none : bit_at block t ≡ 0 = omega (arith, bit_at_not w64 block t small within, lowest.1, bit_at-lt block t) in
    zero-bit bits b (64 * b + t) at (subst (λ (n : ℕ). bit_at block n ≡ 0) low none)

-- and all bits of it below the first such one are
pub set-below : (bits : List ℕ) (b : ℕ) → get_or bits b 0 < 2 ^ 64 → bit_not w64 (get_or bits b 0) < 2 ^ 64 → 0 < bit_not w64 (get_or bits b 0)
    → (j : ℕ) → 64 * b ≤ j → j < 64 * b + trailing_zeros w64 (bit_not w64 (get_or bits b 0)) → bit bits j ≡ true
set-below bits b small others_small some j low high =
    let block = get_or bits b 0 in
    let lowest = bit_at-trailing_zeros w64 (bit_not w64 block) some others_small in
    let here : j / 64 ≡ b = omega (arith, low, high, lowest.0) in
    let zero_bit = lowest.2 (j % 64) (omega (arith, low, high, lowest.0)) in
    one-bit bits b j here (omega (arith, bit_at_not w64 block (j % 64) small (omega arith), zero_bit, bit_at-lt block (j % 64)))

-- a block without one
pub all-set : (bits : List ℕ) (b : ℕ) → get_or bits b 0 < 2 ^ 64 → bit_not w64 (get_or bits b 0) ≡ 0 → (j : ℕ) → 64 * b ≤ j → j < 64 * (b + 1) → bit bits j ≡ true
all-set bits b small none j low high =
    let block = get_or bits b 0 in
    let here : j / 64 ≡ b = omega (arith, low, high) in
    let zero_bit : bit_at (bit_not w64 block) (j % 64) ≡ 0 = ap (λ (n : ℕ). bit_at n (j % 64)) none ∙ bit_at-zero (j % 64) in
    one-bit bits b j here (omega (arith, bit_at_not w64 block (j % 64) small (omega arith), zero_bit, bit_at-lt block (j % 64)))
