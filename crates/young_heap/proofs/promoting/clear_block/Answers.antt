use Rattle.std.proofs.Common.{◌≡◌, ℕ, ◌/◌, ◌%◌, ◌==◌, get_or, inl, inr, sym, ap, ◌∙◌, arith}
use Rattle.std.specs.Int.{bit_at}
use Rattle.std.proofs.lemmas.Bool.{cases_eq}
use Rattle.mark_tables.proofs.Masks.{bit-here, bit-elsewhere}
use Rattle.young_heap.proofs.promoting.clear_block.Goals as goal

pub returns-clause-before : goal.returns-clause-before
returns-clause-before c = λ i lt.
    let bits = c.args.bits.now in
    let b = c.args.b in
    let part = c.low_part.result in
    elim (cases_eq (i / 64) b) [
      | inl here ↦
          bit-here bits b part i c.requires.known here
          ∙ ap (λ (n : ℕ). n == 1) (c.low_part.ensures.below (i % 64) (omega (arith, lt, here)))
          ∙ ap (λ (n : ℕ). bit_at (get_or bits n 0) (i % 64) == 1) (sym here)
      | inr other ↦ bit-elsewhere bits b part i other
    ]

pub returns-clause-cleared : goal.returns-clause-cleared
returns-clause-cleared c = λ i from lt.
    let here : i / 64 ≡ c.args.b = omega (arith, from, lt) in
    bit-here c.args.bits.now c.args.b c.low_part.result i c.requires.known here
    ∙ ap (λ (n : ℕ). n == 1) (c.low_part.ensures.above (i % 64) (omega (arith, from, here)))
