use Rattle.std.proofs.Common.{ℕ, ◌*◌, ◌/◌, ◌%◌, ◌^◌, ◌==◌, get_or, bit_and, w64, ap, ◌∙◌, inl, inr, arith, get_or-set_same, get_or-set_other}
use Rattle.std.specs.Int.{bit_at, bit_not}
use Rattle.std.proofs.lemmas.Bool.{cases_eq}
use Rattle.std.proofs.lemmas.Nat.Bits.{bit_at_clear_same, bit_at_clear_other}
use Rattle.rest_marks.proofs.lane_bits.clear.Goals as goal

pub returns-clause-here : goal.returns-clause-here
returns-clause-here c =
    let bits = c.args.bits.now in
    let i = c.args.i in
    let block = bit_and (get_or bits (i / 64) 0) (bit_not w64 (1 * 2 ^ (i % 64) % 18446744073709551616)) in
    let written = get_or-set_same bits (i / 64) block 0 (omega arith) in
    ap (λ (n : ℕ). bit_at n (i % 64) == 1) written
    ∙ ap (λ (n : ℕ). n == 1) (bit_at_clear_same w64 (get_or bits (i / 64) 0) (i % 64) (omega arith))

pub returns-clause-others : goal.returns-clause-others
returns-clause-others c = λ j other.
    let bits = c.args.bits.now in
    let i = c.args.i in
    let block = bit_and (get_or bits (i / 64) 0) (bit_not w64 (1 * 2 ^ (i % 64) % 18446744073709551616)) in
    elim (cases_eq (j / 64) (i / 64)) [
      | inl here ↦
          let written = get_or-set_same bits (i / 64) block 0 (omega arith) in
          rw here (ap (λ (n : ℕ). bit_at n (j % 64) == 1) written
          ∙ ap (λ (n : ℕ). n == 1) (bit_at_clear_other w64 (get_or bits (i / 64) 0) (i % 64) (omega arith) (j % 64) (omega arith) (λ same. other (omega (arith, same, here)))))
      | inr apart ↦ ap (λ (n : ℕ). bit_at n (j % 64) == 1) (get_or-set_other bits (i / 64) (j / 64) block 0 apart)
    ]
