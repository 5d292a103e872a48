use Rattle.std.proofs.Common.{arith}
use Rattle.pinned_heap.proofs.BlockEnds.{bases-none, bases-few, bases-more, bases-all}
use Rattle.pinned_heap.proofs.bases.bases.Goals as goal

pub loop-b-init : goal.loop-b-init
loop-b-init c = record {
  bases = rw c.in_ok-bases.ensures.items (bases-none c.args.bits.now c.args.stays.now);
  room = c.in_ok-bases.ensures.capacity;
}

pub push_reserved-requires : goal.push_reserved-requires
push_reserved-requires c = omega (arith, c.loop-b.invariant.bases.long, c.loop-b.invariant.room, c.loop-b-test.true)

pub overflow_cast-next : goal.overflow_cast-next
overflow_cast-next c =
    let few = bases-few c.args.bits.now c.args.stays.now c.loop-b.bases.items c.loop-b.b c.loop-b.next c.loop-b.invariant.bases in
    omega (arith, few, c.loop-b-test.true, c.requires.few)

pub loop-b-preserved : goal.loop-b-preserved
loop-b-preserved c = record {
  bases = rw c.push_reserved.ensures.items
      (bases-more c.args.bits.now c.args.stays.now c.loop-b.bases.items c.loop-b.b c.loop-b.next c.end_of_block-next.result c.loop-b.invariant.bases c.end_of_block-next.ensures);
  room = omega (arith, c.push_reserved.ensures.capacity, c.loop-b.invariant.room);
}

pub returns : goal.returns
returns c =
    bases-all c.args.bits.now c.args.stays.now c.loop-b.bases.items c.loop-b.b c.loop-b.next c.requires.few c.requires.same (omega (arith, c.loop-b-test.false, c.loop-b.auto.b-end)) c.loop-b.invariant.bases
