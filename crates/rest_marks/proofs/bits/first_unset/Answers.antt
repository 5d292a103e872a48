use Rattle.std.proofs.Common.{◌*◌, inl, inr, arith}
use Rattle.std.proofs.lemmas.Bool.{cases_lt}
use Rattle.rest_marks.proofs.Inverting.{unset-there, set-below, all-set}
use Rattle.rest_marks.proofs.bits.first_unset.Goals as goal

pub returns-then-others-ne0-clause-unset : goal.returns-then-others-ne0-clause-unset
returns-then-others-ne0-clause-unset c =
    let b = c.loop-b.b in
    unset-there c.args.bits.now b (omega (arith, c.type_inv.bits b)) (omega arith) (omega (arith, c.if-others-ne0.true))

pub returns-then-others-ne0-clause-below : goal.returns-then-others-ne0-clause-below
returns-then-others-ne0-clause-below c = λ j lt.
    let b = c.loop-b.b in
    elim (cases_lt j (64 * b)) [
      | inl old ↦ c.loop-b.invariant j old
      | inr new ↦ set-below c.args.bits.now b (omega (arith, c.type_inv.bits b)) (omega arith) (omega (arith, c.if-others-ne0.true)) j new lt
    ]

pub loop-b-preserved : goal.loop-b-preserved
loop-b-preserved c = λ j lt.
    let b = c.loop-b.b in
    elim (cases_lt j (64 * b)) [
      | inl old ↦ c.loop-b.invariant j old
      | inr new ↦ all-set c.args.bits.now b (omega (arith, c.type_inv.bits b)) (omega (arith, c.if-others-ne0.false)) j new lt
    ]
