use Rattle.std.proofs.Common.{get_or, refl, ◌∙◌, arith}
use Rattle.std.proofs.lemmas.Nat.{ones-le}
use Rattle.rest_marks.proofs.Counts.{counted-few, counted-next, counted-all}
use Rattle.rest_marks.proofs.block_offsets.put_offsets.Goals as goal

pub overflow_add-total : goal.overflow_add-total
overflow_add-total c =
    let b = c.loop-block.block-index in
    let block = get_or c.args.bits.now b 0 in
    omega (arith, c.loop-block.invariant.counted.count, counted-few c.args.bits.now b, ones-le 64 block (omega (arith, c.type_inv.bits b)))

pub loop-block-preserved : goal.loop-block-preserved
loop-block-preserved c =
    let bits = c.args.bits.now in
    let b = c.loop-block.block-index in
    record {
      counted = rw c.push_reserved.ensures.items
          (counted-next bits c.loop-block.offsets.items b c.loop-block.total (get_or bits b 0) c.loop-block.invariant.counted (omega (arith, c.type_inv.bits b)) refl);
      room = c.push_reserved.ensures.capacity ∙ c.loop-block.invariant.room;
    }

pub returns : goal.returns
returns c = record {
  offsets = rw c.push_reserved-2.ensures.items
      (counted-all c.args.bits.now c.loop-block.offsets.items c.loop-block.block-index c.loop-block.total c.requires.few (omega arith) c.loop-block.invariant.counted);
  capacity = c.push_reserved-2.ensures.capacity ∙ c.loop-block.invariant.room;
}
