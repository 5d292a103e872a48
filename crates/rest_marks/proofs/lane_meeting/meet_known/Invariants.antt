use Rattle.std.proofs.Common.{◌≡◌, ℕ, ◌<◌, true, length, get_or}
use Rattle.heap_layout.specs.Bits.{leads}
use Rattle.heap_layout.specs.Values.{or_immediate}
use Rattle.rest_marks.specs.Lanes.{IsLedTo, IsTold}
use Rattle.rest_marks.specs.Reached.{is_within}
use Rattle.rest_marks.specs.Meeting.{AreMet, AreOnce}
use Rattle.rest_marks.proofs.lane_meeting.meet_known.Given as goal

-- the objects to which the words before lead are known, and nothing else was told
abbrev pub invariant-loop-k : goal.invariant-loop-k
invariant-loop-k l = record {
  kept : (k : ℕ) → k < l.k → or_immediate l.edition (leads l.known) (get_or l.words k 0) ≡ true;
  told : IsTold (IsLedTo l.count l.words) l.fn.queue.items l.fn.known l.queue.items l.known;
  leads : (k : ℕ) → k < l.k → is_within l.edition l.count (get_or l.words k 0) ≡ true;
  met : AreMet l.queue.items l.heads;
  once : AreOnce l.count l.queue.items;
  same : length l.known ≡ length l.fn.known;
  heads : length l.heads ≡ length l.fn.heads;
}
