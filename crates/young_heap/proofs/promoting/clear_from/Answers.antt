use Rattle.std.proofs.Common.{◌*◌, length, inl, inr, ◌∙◌, arith}
use Rattle.std.proofs.lemmas.Bool.{cases_lt}
use Rattle.rest_marks.proofs.Bounding.{bit-past}
use Rattle.young_heap.proofs.promoting.clear_from.Goals as goal

pub loop-k-init : goal.loop-k-init
loop-k-init c = record {
  below = λ i lt. c.clear_block.ensures.before i (omega (arith, lt));
  none = λ i le lt. c.clear_block.ensures.cleared i (omega (arith, le)) (omega (arith, lt));
  long = c.clear_block.ensures.length;
}

pub loop-k-preserved : goal.loop-k-preserved
loop-k-preserved c =
    let k = c.loop-k.k in
    let done = c.clear_block-in-loop-k.ensures in
    record {
      below = λ i lt. done.before i (omega (arith, lt, c.loop-k.auto.k)) ∙ c.loop-k.invariant.below i lt;
      none = λ i le lt. elim (cases_lt i (64 * k)) [
        | inl earlier ↦ done.before i (omega (arith, earlier)) ∙ c.loop-k.invariant.none i le earlier
        | inr here ↦ done.cleared i (omega (arith, here)) (omega (arith, lt))
      ];
      long = done.length ∙ c.loop-k.invariant.long;
    }

pub returns-clause-none : goal.returns-clause-none
returns-clause-none c = λ i le.
    let bits = c.loop-k.bits in
    elim (cases_lt i (64 * length bits)) [
      | inl inside ↦ c.loop-k.invariant.none i le (omega (arith, inside, c.loop-k-test.false, c.loop-k.invariant.long, c.clear_block.ensures.length))
      | inr past ↦ bit-past bits i past
    ]
