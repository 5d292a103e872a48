use Rattle.std.proofs.Common.{◌≤◌, length, vec_capacity}
use Rattle.pinned_heap.proofs.BlockEnds.{AreBasesTo}
use Rattle.pinned_heap.proofs.bases.bases.Given as goal

abbrev pub invariant-loop-b : goal.invariant-loop-b
invariant-loop-b l = record {
  bases : AreBasesTo l.bits l.stays l.b l.next l.bases.items;
  room : length l.bits ≤ vec_capacity l.bases;
}
