use Rattle.std.proofs.Common.{length, ◌-◌}
use Rattle.heap_layout.specs.Bits.{bit}
use Rattle.reachability.specs.Queue.{AreUnmet}
use Rattle.reachability.proofs.Marking.{IsMarking}
use Rattle.reachability.proofs.rounds.meet_reached_by_threads.Given as goal

abbrev pub invariant-loop-next : goal.invariant-loop-next
invariant-loop-next g l = record {
  marking : IsMarking l.edition l.words l.roots (bit l.row) l.queue.items l.next;
  unmet : AreUnmet l.row l.queue.items l.unmet;
}

abbrev pub decreases-loop-next : goal.decreases-loop-next
decreases-loop-next g l = length l.words - l.next
