-- The bits of a block that a mask has: all of them unset, or one of them set.
use Rattle.std.proofs.Common.{◌≡◌, ◌≢◌, ℕ, ◌+◌, ◌*◌, ◌/◌, ◌%◌, ◌^◌, ◌<◌, ◌≤◌, ◌==◌, true, false, w64, List, get_or, bit_and, inl, inr, ap, ◌∙◌, arith}
use Rattle.std.specs.Int.{bit_at, trailing_zeros}
use Rattle.std.proofs.lemmas.Bool.{cases_lt}
use Rattle.std.proofs.lemmas.Nat.Bits.{bit_at_and, bit_at-zero, bit_at-lt, bit_at-trailing_zeros}
use Rattle.std.proofs.lemmas.Nat.{and_le_l}
use Rattle.heap_layout.specs.Bits.{bit}

pub free-bit : (bits : List ℕ) (b mask j : ℕ) → bit_and (get_or bits b 0) mask ≡ 0 → j / 64 ≡ b → bit_at mask (j % 64) ≡ 1 → bit bits j ≡ false
free-bit bits b mask j empty here one =
    let block = get_or bits b 0 in
    let none : bit_at (bit_and block mask) (j % 64) ≡ 0 = ap (λ (n : ℕ). bit_at n (j % 64)) empty ∙ bit_at-zero (j % 64) in
    let unset : bit_at block (j % 64) ≡ 0 = omega (arith, none, bit_at_and block mask (j % 64), one) in
    ap (λ (n : ℕ). bit_at (get_or bits n 0) (j % 64) == 1) here ∙ ap (λ (n : ℕ). n == 1) unset

pub taken-bit : (bits : List ℕ) (b mask from to : ℕ) → bit_and (get_or bits b 0) mask ≢ 0 → get_or bits b 0 < 2 ^ 64 → to ≤ 64
    → ((k : ℕ) → k < from → bit_at mask k ≡ 0) → ((k : ℕ) → to ≤ k → bit_at mask k ≡ 0)
    → (k : ℕ) × (from ≤ k) × (k < to) × (bit bits (64 * b + k) ≡ true)
taken-bit bits b mask from to some small within below above =
    let block = get_or bits b 0 in
    let both = bit_and block mask in
    let k = trailing_zeros w64 both in
    let lowest = (bit_at-trailing_zeros w64 both (omega (arith, some)) (omega (arith, small, and_le_l block mask))).1 in
    let parts = bit_at_and block mask k in
    let low : from ≤ k = elim (cases_lt k from) [
      | inl lt ↦ absurd (omega (arith, parts, below k lt, lowest))
      | inr le ↦ le
    ] in
    let high : k < to = elim (cases_lt k to) [
      | inl lt ↦ lt
      | inr le ↦ absurd (omega (arith, parts, above k le, lowest))
    ] in
    let set : bit_at block k ≡ 1 = omega (arith, parts, lowest, bit_at-lt block k) in
    let at_block : (64 * b + k) / 64 ≡ b = omega (arith, high, within) in
    let at_bit : (64 * b + k) % 64 ≡ k = omega (arith, high, within) in
    (k, low, high, ap (λ (n : ℕ). bit_at (get_or bits n 0) ((64 * b + k) % 64) == 1) at_block ∙ ap (λ (n : ℕ). bit_at block n == 1) at_bit ∙ ap (λ (n : ℕ). n == 1) set)
