use Rattle.std.proofs.Common.{◌≡◌, ◌≢◌, ℕ, ◌*◌, ◌/◌, ◌%◌, ◌^◌, ◌<◌, ◌==◌, ◌||◌, Bool, true, false, get_or, bit_or, w64, refl, sym, ap, ◌∙◌, inl, inr, arith, get_or-set_same, get_or-set_other}
use Rattle.std.specs.Int.{bit_at, from_bool}
use Rattle.std.proofs.lemmas.Bool.{cases_eq, or_right}
use Rattle.heap_layout.proofs.MarkBits.{or_none}
use Rattle.std.proofs.lemmas.Nat.Bits.{bit_at_or, bit_at-zero, bit_at_set_same, bit_at_set_other}
use Rattle.heap_layout.proofs.bits.set_if.Goals as goal

-- the bit of a block is set if `there` is true, otherwise it stays
set-here : (block k n : ℕ) (there : Bool) → n ≡ from_bool there → k < 64 → (bit_at (bit_or block (n * 2 ^ k % 18446744073709551616)) k == 1) ≡ ((bit_at block k == 1) || there)
set-here block k n true is lt = rw is (ap (λ (n : ℕ). n == 1) (bit_at_set_same w64 block k lt) ∙ sym (or_right (bit_at block k == 1) true refl))
set-here block k n false is lt =
    let none : 0 * 2 ^ k % 18446744073709551616 ≡ 0 = omega arith in
    let same : bit_at (bit_or block (0 * 2 ^ k % 18446744073709551616)) k ≡ bit_at block k =
    ap (λ (n : ℕ). bit_at (bit_or block n) k) none ∙ bit_at_or block 0 k ∙ omega (arith, bit_at-zero k) in
    rw is (ap (λ (n : ℕ). n == 1) same ∙ sym (or_none (bit_at block k == 1)))

-- any other bit stays
set-elsewhere : (block k i n : ℕ) (there : Bool) → n ≡ from_bool there → k < 64 → i ≢ k → bit_at (bit_or block (n * 2 ^ k % 18446744073709551616)) i ≡ bit_at block i
set-elsewhere block k i n true is lt other = rw is (bit_at_set_other w64 block k lt i other)
set-elsewhere block k i n false is lt other =
    let none : 0 * 2 ^ k % 18446744073709551616 ≡ 0 = omega arith in
    rw is (ap (λ (n : ℕ). bit_at (bit_or block n) i) none ∙ bit_at_or block 0 i ∙ omega (arith, bit_at-zero i))

pub returns-clause-here : goal.returns-clause-here
returns-clause-here c =
    let bits = c.args.bits.now in
    let i = c.args.i in
    let there = c.args.there in
    let written = get_or-set_same bits (i / 64) (bit_or (get_or bits (i / 64) 0) (c.from.result * 2 ^ (i % 64) % 18446744073709551616)) 0 (omega arith) in
    ap (λ (block : ℕ). bit_at block (i % 64) == 1) written ∙ set-here (get_or bits (i / 64) 0) (i % 64) c.from.result there c.from.ensures (omega arith)

pub returns-clause-elsewhere : goal.returns-clause-elsewhere
returns-clause-elsewhere c = λ j other.
    let bits = c.args.bits.now in
    let i = c.args.i in
    let block = bit_or (get_or bits (i / 64) 0) (c.from.result * 2 ^ (i % 64) % 18446744073709551616) in
    elim (cases_eq (j / 64) (i / 64)) [
      | inl here ↦
          let written = get_or-set_same bits (i / 64) block 0 (omega arith) in
          rw here (ap (λ (n : ℕ). bit_at n (j % 64) == 1) written
          ∙ ap (λ (n : ℕ). n == 1) (set-elsewhere (get_or bits (i / 64) 0) (i % 64) (j % 64) c.from.result c.args.there c.from.ensures (omega arith) (λ same. omega (arith, other))))
      | inr apart ↦ ap (λ (n : ℕ). bit_at n (j % 64) == 1) (get_or-set_other bits (i / 64) (j / 64) block 0 apart)
    ]
