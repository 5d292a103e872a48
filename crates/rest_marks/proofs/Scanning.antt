-- The bits of a block, from a bit on.
use Rattle.std.proofs.Common.{◌≡◌, ℕ, ◌+◌, ◌-◌, ◌*◌, ◌/◌, ◌%◌, ◌^◌, ◌<◌, ◌≤◌, ◌==◌, true, false, w64, List, get_or, inl, inr, sym, ap, ◌∙◌, arith}
use Rattle.std.specs.Int.{bit_at, trailing_zeros}
use Rattle.std.proofs.Math.Nat.{div-le_self}
use Rattle.std.proofs.lemmas.Bool.{cases_lt, cases_eq, both_ways}
use Rattle.std.proofs.lemmas.Nat.{shr-shr}
use Rattle.std.proofs.lemmas.Nat.Bits.{bit_at-zero, bit_at_above, bit_at-trailing_zeros}
use Rattle.heap_layout.specs.Bits.{bit}
use Rattle.rest_marks.proofs.Bounding.{bit-empty}

-- a bit of block b, from its bit s on
at-bit : (bits : List ℕ) (b s k : ℕ) → s + k < 64 → bit bits (64 * b + s + k) ≡ (bit_at (get_or bits b 0 / 2 ^ s) k == 1)
at-bit bits b s k inside =
    let block : (64 * b + s + k) / 64 ≡ b = omega arith in
    let place : (64 * b + s + k) % 64 ≡ s + k = omega arith in
    ap (λ (n : ℕ). bit_at (get_or bits n 0) ((64 * b + s + k) % 64) == 1) block
    ∙ ap (λ (n : ℕ). bit_at (get_or bits b 0) n == 1) place
    ∙ ap (λ (n : ℕ). n % 2 == 1) (sym (shr-shr (get_or bits b 0) s k))

-- the first bit from bit s of block b on that is set, in that block
pub record IsNext (bits : List ℕ) (from next : ℕ) : Type 0 where
  pub here : bit bits next ≡ true
  pub none : (j : ℕ) → from ≤ j → j < next → bit bits j ≡ false

pub next-there : (bits : List ℕ) (i b s rest : ℕ) → i ≡ 64 * b + s → s < 64 → rest ≡ get_or bits b 0 / 2 ^ s → get_or bits b 0 < 2 ^ 64 → 0 < rest
    → IsNext bits i (i + trailing_zeros w64 rest)
next-there bits i b s rest at low is small some =
    let t = trailing_zeros w64 rest in
    let below : rest < 2 ^ 64 = omega (arith, is, small, div-le_self (get_or bits b 0) (2 ^ s)) in
    let lowest = bit_at-trailing_zeros w64 rest some below in
    let set : bit_at (get_or bits b 0 / 2 ^ s) t ≡ 1 = ap (λ (n : ℕ). bit_at n t) (sym is) ∙ lowest.1 in
    let inside : s + t < 64 = elim (cases_lt (s + t) 64) [
      | inl lt ↦ lt
      | inr past ↦ absurd (
          let shifted : bit_at (get_or bits b 0) (s + t) ≡ 1 = ap (λ (n : ℕ). n % 2) (sym (shr-shr (get_or bits b 0) s t)) ∙ set in
          let above = bit_at_above (get_or bits b 0) 64 (s + t) small past in omega (arith, shifted, above))
    ] in
    record {
      here =
          let place : i + t ≡ 64 * b + s + t = omega (arith, at) in
          ap (bit bits) place ∙ at-bit bits b s t inside ∙ ap (λ (n : ℕ). n == 1) set;
      none = λ j from lt.
          let k = j - i in
          let place : j ≡ 64 * b + s + k = omega (arith, at, from) in
          let zero_bit : bit_at (get_or bits b 0 / 2 ^ s) k ≡ 0 = ap (λ (n : ℕ). bit_at n k) (sym is) ∙ lowest.2 k (omega (arith, from, lt)) in
          ap (bit bits) place ∙ at-bit bits b s k (omega (arith, inside, from, lt)) ∙ ap (λ (n : ℕ). n == 1) zero_bit;
    }

-- no bit from bit s of block b on is set in that block, if the rest of it is 0
pub none-there : (bits : List ℕ) (i b s : ℕ) → i ≡ 64 * b + s → s < 64 → get_or bits b 0 / 2 ^ s ≡ 0 → (j : ℕ) → i ≤ j → j < 64 * (b + 1) → bit bits j ≡ false
none-there bits i b s at low empty j from lt =
    let k = j - i in
    let place : j ≡ 64 * b + s + k = omega (arith, at, from) in
    ap (bit bits) place ∙ at-bit bits b s k (omega (arith, at, from, lt)) ∙ ap (λ (n : ℕ). bit_at n k == 1) empty ∙ ap (λ (n : ℕ). n == 1) (bit_at-zero k)

-- a bit that is set is before a block of zeros
pub before-block : (heads : List ℕ) (i s : ℕ) → bit heads s ≡ true → s < i → get_or heads (i / 64) 0 ≡ 0 → s < i - i % 64
before-block heads i s set lt empty = elim (cases_eq (s / 64) (i / 64)) [
  | inl same ↦ absurd (both_ways (bit heads s) (bit-empty heads s (ap (λ (n : ℕ). get_or heads n 0) same ∙ empty)) set)
  | inr other ↦ omega (arith, lt, other)
]
