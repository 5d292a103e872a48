use Rattle.std.proofs.Common.{◌≡◌, ℕ, ◌<◌, ◌≤◌, true, vec_capacity, fold, drop, length, get_or}
use Rattle.reachability.specs.Queue.{after_word}
use Rattle.rest_marks.specs.Meeting.{AreOnce}
use Rattle.young_heap.specs.Young.{is_above, is_led, words_at, AreKeptBelow, AreMetAbove}
use Rattle.young_heap.proofs.meeting.meet_fields.Given as goal

-- the same with fields
abbrev pub invariant-loop-n : goal.invariant-loop-n
invariant-loop-n l = record {
  queue : fold (after_word (is_above l.old (length l.words))) l.queue.items (words_at l.words (drop l.n l.fields))
      ≡ fold (after_word (is_above l.old (length l.words))) l.fn.queue.items (words_at l.words l.fields);
  met : AreMetAbove l.old l.queue.items l.met;
  leads : (k : ℕ) → k < l.n → is_led l.edition l.fn.met l.old (length l.words) (get_or l.words (get_or l.fields k 0) 0) ≡ true;
  once : AreOnce (length l.words) l.queue.items;
  below : AreKeptBelow l.old l.fn.met l.met;
  same : length l.met ≡ length l.fn.met;
  room : vec_capacity l.fn.queue ≤ vec_capacity l.queue;
}
