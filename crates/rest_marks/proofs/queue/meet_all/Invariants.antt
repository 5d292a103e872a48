use Rattle.std.proofs.Common.{◌≡◌, ℕ, ◌<◌, ◌≤◌, true, vec_capacity, fold, drop, length, get_or}
use Rattle.reachability.specs.Queue.{after_word}
use Rattle.rest_marks.specs.Reached.{is_below, is_within}
use Rattle.rest_marks.specs.Meeting.{AreMet, AreOnce}
use Rattle.rest_marks.proofs.queue.meet_all.Given as goal

-- the remaining words make of the queue what all words make of the first one; those before lead to words
abbrev pub invariant-loop-k : goal.invariant-loop-k
invariant-loop-k l = record {
  queue : fold (after_word (is_below l.count)) l.queue.items (drop l.k l.words) ≡ fold (after_word (is_below l.count)) l.fn.queue.items l.words;
  met : AreMet l.queue.items l.met;
  leads : (k : ℕ) → k < l.k → is_within l.edition l.count (get_or l.words k 0) ≡ true;
  once : AreOnce l.count l.queue.items;
  same : length l.met ≡ length l.fn.met;
  more : length l.fn.queue.items ≤ length l.queue.items;
  room : vec_capacity l.fn.queue ≤ vec_capacity l.queue;
}
