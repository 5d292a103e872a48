use Rattle.std.proofs.Common.{◌≤◌, vec_capacity}
use Rattle.stopped_heap.proofs.Listing.{AreListed}
use Rattle.stopped_heap.proofs.regrowing.put_queue.Given as goal

abbrev pub invariant-loop-i : goal.invariant-loop-i
invariant-loop-i l = record {
  listed : AreListed l.heads l.i l.queue.items;
  room : vec_capacity l.fn.queue ≤ vec_capacity l.queue;
}
