use Rattle.std.proofs.Common.{◌≡◌, take, length}
use Rattle.rest_marks.proofs.Counts.{AreCountedTo}
use Rattle.young_heap.proofs.recounting.recount.Given as goal

abbrev pub invariant-loop-b : goal.invariant-loop-b
invariant-loop-b l = record {
  counted : AreCountedTo l.bits l.b l.total (take l.b l.offsets);
  long : length l.offsets ≡ length l.fn.offsets;
}
