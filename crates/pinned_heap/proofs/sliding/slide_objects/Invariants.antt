use Rattle.std.proofs.Common.{◌-◌}
use Rattle.pinned_heap.proofs.SlidingPart.{IsSlidTo}
use Rattle.pinned_heap.proofs.sliding.slide_objects.Given as goal

abbrev pub invariant-loop-next : goal.invariant-loop-next
invariant-loop-next l = IsSlidTo l.edition l.heads l.bits l.stays l.low l.fn.part l.next l.place l.part

abbrev pub decreases-loop-next : goal.decreases-loop-next
decreases-loop-next l = l.limit - l.next
