use Rattle.std.proofs.Common.{◌-◌, ◌≤◌}
use Rattle.young_heap.specs.Young.{AreOld}
use Rattle.young_heap.proofs.checking.row_end.Given as goal

abbrev pub invariant-loop-next : goal.invariant-loop-next
invariant-loop-next l = record {
  row : AreOld l.edition l.words l.starts l.next;
  within : l.next ≤ l.old;
}

abbrev pub decreases-loop-next : goal.decreases-loop-next
decreases-loop-next l = l.old - l.next
