use Rattle.std.proofs.Common.{◌≡◌, ℕ, ◌<◌, true, length, get_or}
use Rattle.rest_marks.specs.Reached.{is_within}
use Rattle.young_heap.proofs.meeting.check_at.Given as goal

abbrev pub invariant-loop-n : goal.invariant-loop-n
invariant-loop-n l = (n : ℕ) → n < l.n → is_within l.edition (length l.words) (get_or l.words (get_or l.weaks n 0) 0) ≡ true
