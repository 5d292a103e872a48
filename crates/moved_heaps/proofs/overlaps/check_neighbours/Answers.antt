use Rattle.std.proofs.Common.{arith}
use Rattle.moved_heaps.proofs.Neighbours.{none_overlap, least_at, clear_more}
use Rattle.moved_heaps.proofs.overlaps.check_neighbours.Goals as goal

pub returns-then-from-clause-first : goal.returns-then-from-clause-first
returns-then-from-clause-first c = (
  c.requires.places,
  least_at c.args.heap.now c.args.moved.now c.requires.places.head c.args.row.now c.requires.row c.loop-i.i c.from-then-from.result c.from-then-from-2.result (omega arith) (omega arith)
      c.loop-i.invariant (omega (arith, c.size_at.ensures.size)) c.from-then-from.ensures c.from-then-from-2.ensures,
)

pub loop-i-preserved : goal.loop-i-preserved
loop-i-preserved c =
    clear_more c.args.heap.now c.args.moved.now c.requires.places.head c.args.row.now c.requires.row c.loop-i.i (omega arith) c.loop-i.invariant (omega (arith, c.size_at.ensures.size))

pub returns-clause-none : goal.returns-clause-none
returns-clause-none c = none_overlap c.args.heap.now c.args.moved.now c.requires.places.head c.args.row.now c.requires.row c.loop-i.i (omega arith) c.loop-i.invariant
