use Rattle.std.proofs.Common.{◌≡◌, ℕ, List, true, length, ◌-◌, ◌≤◌, vec_capacity}
use Rattle.heap_layout.specs.Bits.{bit}
use Rattle.rest_marks.specs.Following.{IsAhead}
use Rattle.rest_marks.specs.Growing.{IsBegunIn}
use Rattle.rest_marks.specs.Meeting.{AreMet, AreOnce}
use Rattle.rest_marks.proofs.Seen.{IsSeenTo}
use Rattle.rest_marks.proofs.marking.mark_by.Given as goal

abbrev pub invariant-loop-next : goal.invariant-loop-next
invariant-loop-next l = record {
  seen : (seen : List ℕ) → IsBegunIn l.edition l.words seen l.fn.queue.items l.fn.heads l.fn.bits
      → IsSeenTo l.edition seen l.fn.queue.items l.roots l.queue.items l.next l.heads l.bits;
  met : AreMet l.queue.items l.heads;
  once : AreOnce (length l.words) l.queue.items;
  same : length l.heads ≡ length l.bits;
  stay : (j : ℕ) → bit l.fn.bits j ≡ true → bit l.bits j ≡ true;
  long : length l.heads ≡ length l.fn.heads;
  room : vec_capacity l.fn.queue ≤ vec_capacity l.queue;
  ahead : IsAhead l.words l.queue.items l.headers l.ahead;
  order : l.ahead.from ≤ l.next;
}

abbrev pub decreases-loop-next : goal.decreases-loop-next
decreases-loop-next l = length l.words - l.next
