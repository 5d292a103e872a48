use Rattle.std.proofs.Common.{◌+◌, ◌-◌, ◌*◌, ◌/◌, ◌%◌, arith}
use Rattle.mark_tables.proofs.Masks.{set-keeps, set-sets}
use Rattle.rest_marks.proofs.Taking.{free-bit, taken-bit}
use Rattle.rest_marks.proofs.bits.take_in_block.Goals as goal

pub returns-then-block-wanted-ne0-clause-taken : goal.returns-then-block-wanted-ne0-clause-taken
returns-then-block-wanted-ne0-clause-taken c = λ is.
    let start = c.args.start in
    let at = taken-bit c.args.bits.now (start / 64) c.mask-wanted.result (start % 64) (start % 64 + (c.args.end - start)) c.if-block-wanted-ne0.true
    (omega (arith, c.type_inv.bits (start / 64))) (omega arith) c.mask-wanted.ensures.below c.mask-wanted.ensures.above in
    (64 * (start / 64) + at.0, omega (arith, at.1), omega (arith, at.2), at.3)

pub returns-clause-free : goal.returns-clause-free
returns-clause-free c = λ is j le lt.
    free-bit c.args.bits.now (c.args.start / 64) c.mask-wanted.result j (omega (arith, c.if-block-wanted-ne0.false)) (omega (arith, le, lt))
    (c.mask-wanted.ensures.inside (j % 64) (omega (arith, le, lt)) (omega (arith, le, lt)))

pub returns-clause-below : goal.returns-clause-below
returns-clause-below c =
    λ is j lt. set-keeps c.args.bits.now (c.args.start / 64) c.mask-wanted.result j (omega arith) (λ here. c.mask-wanted.ensures.below (j % 64) (omega (arith, lt, here)))

pub returns-clause-inside : goal.returns-clause-inside
returns-clause-inside c =
    λ is j le lt. set-sets c.args.bits.now (c.args.start / 64) c.mask-wanted.result j (omega arith) (omega (arith, le, lt))
    (c.mask-wanted.ensures.inside (j % 64) (omega (arith, le, lt)) (omega (arith, le, lt)))

pub returns-clause-above : goal.returns-clause-above
returns-clause-above c =
    λ is j le. set-keeps c.args.bits.now (c.args.start / 64) c.mask-wanted.result j (omega arith) (λ here. c.mask-wanted.ensures.above (j % 64) (omega (arith, le, here)))
