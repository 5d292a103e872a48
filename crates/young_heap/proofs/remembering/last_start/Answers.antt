use Rattle.std.proofs.Common.{◌≡◌, ℕ, ◌/◌, false, get_or, inl, inr, sym, ap, ◌∙◌, arith}
use Rattle.std.proofs.lemmas.Bool.{cases_eq, cases_lt}
use Rattle.heap_layout.specs.Bits.{bit}
use Rattle.rest_marks.proofs.Bounding.{bit-empty}
use Rattle.young_heap.proofs.remembering.last_start.Goals as goal
use Rattle.young_heap.proofs.remembering.last_start.Goals.{then-starts-i-eq0, else-starts-i-eq0}

pub loop-i-preserved : goal.loop-i-preserved
loop-i-preserved c =
    let starts = c.args.starts.now in
    let i = c.loop-i.i in
    let fails : bit starts i ≡ false = sym c.is_set.ensures ∙ c.if-is_set.false in
    let less = c.saturating_sub-i.ensures in
    elim c.if-starts-i-eq0.branch [
      | then-starts-i-eq0 w ↦ record {
        from = omega (arith, less, w.i-is, c.loop-i.invariant.from);
        none = λ j above le. elim (cases_lt i j) [
          | inl far ↦ c.loop-i.invariant.none j far le
          | inr near ↦ elim (cases_eq (j / 64) (i / 64)) [
            | inl same ↦ bit-empty starts j (ap (λ (n : ℕ). get_or starts n 0) same ∙ w.if-starts-i-eq0.true)
            | inr other ↦ absurd (omega (arith, near, other, above, less, w.i-is))
          ]
        ];
      }
      | else-starts-i-eq0 w ↦ record {
        from = omega (arith, less, w.i-is, c.loop-i.invariant.from);
        none = λ j above le. elim (cases_lt i j) [
          | inl far ↦ c.loop-i.invariant.none j far le
          | inr near ↦
              let same : j ≡ i = omega (arith, near, above, less, w.i-is) in
              ap (bit starts) same ∙ fails
        ];
      }
    ]
