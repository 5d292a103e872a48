-- Bits that are not there.
use Rattle.std.proofs.Common.{◌≡◌, ℕ, ◌*◌, ◌/◌, ◌%◌, ◌<◌, ◌≤◌, ◌==◌, true, false, List, length, get_or, inl, inr, ap, ◌∙◌, arith}
use Rattle.std.specs.Int.{bit_at}
use Rattle.std.proofs.lemmas.Bool.{cases_lt, both_ways}
use Rattle.std.proofs.lemmas.List.{get_or_past}
use Rattle.std.proofs.lemmas.Nat.Bits.{bit_at-zero}
use Rattle.heap_layout.specs.Bits.{bit}

-- no bit is set after the blocks
pub bit-past : (bits : List ℕ) (j : ℕ) → 64 * length bits ≤ j → bit bits j ≡ false
bit-past bits j past =
    ap (λ (n : ℕ). bit_at n (j % 64) == 1) (get_or_past bits (j / 64) 0 (omega (arith, past))) ∙ ap (λ (n : ℕ). n == 1) (bit_at-zero (j % 64))

-- so a bit that is set is inside
pub bit-inside : (bits : List ℕ) (j : ℕ) → bit bits j ≡ true → j < 64 * length bits
bit-inside bits j set = elim (cases_lt j (64 * length bits)) [ inl lt ↦ lt | inr past ↦ absurd (both_ways (bit bits j) (bit-past bits j past) set) ]

-- no bit is set in a block of zeros
pub bit-empty : (bits : List ℕ) (j : ℕ) → get_or bits (j / 64) 0 ≡ 0 → bit bits j ≡ false
bit-empty bits j empty = ap (λ (n : ℕ). bit_at n (j % 64) == 1) empty ∙ ap (λ (n : ℕ). n == 1) (bit_at-zero (j % 64))
