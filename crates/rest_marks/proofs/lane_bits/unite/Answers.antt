use Rattle.std.proofs.Common.{arith}
use Rattle.rest_marks.proofs.LaneSets.{united-first, united-next, united-all}
use Rattle.rest_marks.proofs.lane_bits.unite.Goals as goal

pub loop-b-init : goal.loop-b-init
loop-b-init c = united-first c.args.bits.now c.args.other.now

pub loop-b-preserved : goal.loop-b-preserved
loop-b-preserved c =
    united-next c.args.bits.now c.args.other.now c.loop-b.bits c.loop-b.b (omega (arith, c.loop-b-test.true, c.loop-b.invariant.long)) c.loop-b.invariant

pub returns-clause-both : goal.returns-clause-both
returns-clause-both c = united-all c.args.bits.now c.args.other.now c.loop-b.bits c.loop-b.b (omega (arith, c.loop-b-test.false)) c.requires c.loop-b.invariant
