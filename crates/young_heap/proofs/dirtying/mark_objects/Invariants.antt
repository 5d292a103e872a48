use Rattle.std.proofs.Common.{◌≡◌, ◌-◌, ◌<◌, ◌≤◌, true, length}
use Rattle.heap_layout.specs.Bits.{bit}
use Rattle.young_heap.specs.Dirty.{AreMarked, IsWordFrom, LeadsAbove}
use Rattle.young_heap.proofs.dirtying.mark_objects.Given as goal

-- the words of the objects that start before index `start` are marked, and an object starts there
abbrev pub invariant-loop-start : goal.invariant-loop-start
invariant-loop-start l = record {
  marked : AreMarked l.fn.cards l.cards (λ n. (IsWordFrom l.edition l.words l.starts l.from l.start n × (n < l.old))
      × LeadsAbove l.edition l.words l.starts l.old n);
  from_is : l.from ≤ l.start;
  to_is : l.start ≤ l.old;
  here : l.start < l.old → bit l.starts l.start ≡ true;
  long : length l.cards ≡ length l.fn.cards;
}

abbrev pub decreases-loop-start : goal.decreases-loop-start
decreases-loop-start l = l.old - l.start
