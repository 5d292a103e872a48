use Rattle.std.proofs.Common.{◌≡◌, length, subst, arith}
use Rattle.rest_marks.proofs.Inverting.{AreInverted, inverted-more, inverted-set, inverted-unset}
use Rattle.rest_marks.proofs.bits.inverted.Goals as goal

pub push_reserved-requires : goal.push_reserved-requires
push_reserved-requires c = omega (arith, c.loop-block.invariant.inverted.long, c.loop-block.invariant.room, c.loop-block-test.true)

pub loop-block-preserved : goal.loop-block-preserved
loop-block-preserved c = record {
  inverted = rw c.push_reserved.ensures.items (inverted-more c.args.bits.now c.loop-block.others.items c.loop-block.block-index c.loop-block.invariant.inverted);
  room = omega (arith, c.push_reserved.ensures.capacity, c.loop-block.invariant.room);
}

pub returns-clause-others : goal.returns-clause-others
returns-clause-others c =
    let bits = c.args.bits.now in
    let others = c.loop-block.others.items in
    let all : c.loop-block.block-index ≡ length bits = omega arith in
    let are = subst (AreInverted bits others) all c.loop-block.invariant.inverted in
    record {
      set = λ j lt unset. inverted-set bits others (λ b. omega (arith, c.type_inv.bits b)) are j lt unset;
      unset = λ j set. inverted-unset bits others (λ b. omega (arith, c.type_inv.bits b)) are j set;
    }
