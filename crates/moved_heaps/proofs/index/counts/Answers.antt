use Rattle.std.proofs.Common.{arith}
use Rattle.moved_heaps.proofs.Ranks.{counts-few, counts-next}
use Rattle.moved_heaps.proofs.index.counts.Goals as goal

pub overflow_add-total : goal.overflow_add-total
overflow_add-total c =
    let few = counts-few c.args.bits.now c.loop-block.block-index (omega arith) (omega (arith, c.type_inv.bits c.loop-block.block-index)) c.loop-block.below.items c.loop-block.total c.loop-block.invariant in
    omega (arith, few)

pub loop-block-preserved : goal.loop-block-preserved
loop-block-preserved c =
    rw c.in_ok-push.ensures.items
    (counts-next c.args.bits.now c.loop-block.block-index (omega arith) (omega (arith, c.type_inv.bits c.loop-block.block-index)) c.loop-block.below.items c.loop-block.total c.loop-block.invariant)
