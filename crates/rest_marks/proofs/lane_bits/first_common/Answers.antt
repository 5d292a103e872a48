use Rattle.std.proofs.Common.{◌*◌, inl, inr, arith}
use Rattle.std.proofs.lemmas.Bool.{cases_lt}
use Rattle.rest_marks.proofs.Bounding.{bit-inside}
use Rattle.rest_marks.proofs.LaneSets.{common-there, common-none}
use Rattle.rest_marks.proofs.lane_bits.first_common.Goals as goal

pub returns-then-common-ne0-clause-one : goal.returns-then-common-ne0-clause-one
returns-then-common-ne0-clause-one c =
    (common-there c.args.one.now c.args.other.now c.loop-b.b (omega (arith, c.type_inv.one c.loop-b.b)) (omega (arith, c.if-common-ne0.true))).0

pub returns-then-common-ne0-clause-other : goal.returns-then-common-ne0-clause-other
returns-then-common-ne0-clause-other c =
    (common-there c.args.one.now c.args.other.now c.loop-b.b (omega (arith, c.type_inv.one c.loop-b.b)) (omega (arith, c.if-common-ne0.true))).1

pub loop-b-preserved : goal.loop-b-preserved
loop-b-preserved c = λ i lt on.
    let b = c.loop-b.b in
    elim (cases_lt i (64 * b)) [
      | inl old ↦ c.loop-b.invariant i old on
      | inr new ↦ common-none c.args.one.now c.args.other.now b i (omega (arith, c.if-common-ne0.false)) new lt on
    ]

pub returns-clause-none : goal.returns-clause-none
returns-clause-none c = λ i on. c.loop-b.invariant i (omega (arith, bit-inside c.args.one.now i on, c.loop-b-test.false)) on
