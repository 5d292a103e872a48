use Rattle.std.proofs.Common.{◌≡◌, ℕ, ◌<◌, ◌≤◌, true, vec_capacity, fold, drop, length, get_or}
use Rattle.reachability.specs.Queue.{after_word}
use Rattle.rest_marks.specs.Meeting.{AreOnce}
use Rattle.young_heap.specs.Young.{is_above, is_led, AreKeptBelow, AreMetAbove}
use Rattle.young_heap.proofs.meeting.meet_all_above.Given as goal

-- the remaining words make of the queue what all words make of the first one; those before lead to old objects or above
abbrev pub invariant-loop-k : goal.invariant-loop-k
invariant-loop-k l = record {
  queue : fold (after_word (is_above l.old l.count)) l.queue.items (drop l.k l.words) ≡ fold (after_word (is_above l.old l.count)) l.fn.queue.items l.words;
  met : AreMetAbove l.old l.queue.items l.met;
  leads : (k : ℕ) → k < l.k → is_led l.edition l.fn.met l.old l.count (get_or l.words k 0) ≡ true;
  once : AreOnce l.count l.queue.items;
  below : AreKeptBelow l.old l.fn.met l.met;
  same : length l.met ≡ length l.fn.met;
  room : vec_capacity l.fn.queue ≤ vec_capacity l.queue;
}
