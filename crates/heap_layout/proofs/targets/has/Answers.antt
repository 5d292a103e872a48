use Rattle.std.proofs.Common.{◌≡◌, ℕ, ◌+◌, ◌-◌, ◌*◌, ◌/◌, ◌%◌, ◌^◌, ◌<◌, ◌≤◌, ◌==◌, ◌&&◌, ◌||◌, Bool, false, ltb, List, length, refl, sym, ap, ◌∙◌, inl, inr, arith}
use Rattle.std.specs.Int.{bit_at}
use Rattle.std.proofs.lemmas.Bool.{cases_lt, lt-ltb, le-ltb, le-leb, lt-leb}
use Rattle.std.proofs.lemmas.List.{get_or_past}
use Rattle.std.proofs.lemmas.Nat.Bits.{bit_at-zero}
use Rattle.heap_layout.specs.Bits.{bit, leads}
use Rattle.heap_layout.proofs.targets.has.Goals as goal
use Rattle.heap_layout.proofs.targets.has.Goals.{then-inside, else-inside}

-- no bit is set after the blocks
bit-past : (bits : List ℕ) (j : ℕ) → 64 * length bits ≤ j → bit bits j ≡ false
bit-past bits j past =
    ap (λ (n : ℕ). bit_at n (j % 64) == 1) (get_or_past bits (j / 64) 0 (omega (arith, past))) ∙ ap (λ (n : ℕ). n == 1) (bit_at-zero (j % 64))

-- the bit of the index of a word, if there is one; a word below from-space has an index far after the blocks
has-reported : (bits : List ℕ) (reference i at : ℕ) (there : Bool) → length bits ≤ 2 ^ 26 → reference < 2 ^ 64 → i ≡ (reference + (2 ^ 64 - 2 ^ 32)) % 2 ^ 64
    → (i / 64 < length bits → at ≡ i) → there ≡ bit bits at → ((reference == 0) || (ltb (i / 64) (length bits) && there)) ≡ leads bits reference
has-reported bits reference i at there few small is found reported = ap (λ (b : Bool). (reference == 0) || b) (
    elim (cases_lt reference (2 ^ 32)) [
      | inl below ↦
          ap (λ (b : Bool). b && there) (le-ltb (i / 64) (length bits) (omega (arith, is, below, few)))
          ∙ sym (ap (λ (b : Bool). b && bit bits (reference - 2 ^ 32)) (lt-leb (2 ^ 32) reference below))
      | inr above ↦
          let index : i ≡ reference - 2 ^ 32 = omega (arith, is, above, small) in
          let whole = ap (λ (b : Bool). b && bit bits (reference - 2 ^ 32)) (le-leb (2 ^ 32) reference above) in
          elim (cases_lt (i / 64) (length bits)) [
            | inl within ↦
                ap (λ (b : Bool). b && there) (lt-ltb (i / 64) (length bits) within) ∙ reported ∙ ap (bit bits) (found within ∙ index) ∙ sym whole
            | inr past ↦
                ap (λ (b : Bool). b && there) (le-ltb (i / 64) (length bits) past)
                ∙ sym (whole ∙ bit-past bits (reference - 2 ^ 32) (omega (arith, index, past)))
          ]
    ])

pub returns : goal.returns
returns c =
    has-reported c.args.bits.now c.args.reference _ c.if-inside.at c.is_set-there.result (omega arith) (omega arith) refl
    (λ within. elim c.if-inside.branch [ then-inside w ↦ w.at-is | else-inside w ↦ absurd (omega (arith, within, w.if-inside.false)) ])
    c.is_set-there.ensures
