use Rattle.std.proofs.Common.{◌≡◌, ◌≤◌, length}
use Rattle.stopped_heap.proofs.LanesJoined.{AreCleared}
use Rattle.stopped_heap.proofs.lane_joining.clear_last.Given as goal

abbrev pub invariant-loop-k : goal.invariant-loop-k
invariant-loop-k l = record {
  from : l.keep ≤ l.k;
  cleared : AreCleared l.keep l.queue l.k l.heads;
  long : length l.heads ≡ length l.fn.heads;
}
