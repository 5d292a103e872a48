use Rattle.std.proofs.Common.{◌≡◌, ℕ, ◌<◌, ◌≤◌, false, length, get_or}
use Rattle.mark_tables.specs.MarkBitmap.{set_bits}
use Rattle.reachability.specs.Queue.{has}
use Rattle.rest_marks.specs.Looking.{kept_by}
use Rattle.young_heap.proofs.sliding.settle_weaks.Given as goal

-- the first n weak words are settled
abbrev pub invariant-loop-n : goal.invariant-loop-n
invariant-loop-n l = record {
  done : (m : ℕ) → m < l.n → get_or l.words (get_or l.weaks m 0) 0 ≡ kept_by l.edition l.heads (set_bits l.bits) (get_or l.fn.words (get_or l.weaks m 0) 0);
  later : (m : ℕ) → l.n ≤ m → m < length l.weaks → get_or l.words (get_or l.weaks m 0) 0 ≡ get_or l.fn.words (get_or l.weaks m 0) 0;
  others : (j : ℕ) → has l.weaks j ≡ false → get_or l.words j 0 ≡ get_or l.fn.words j 0;
  long : length l.words ≡ length l.fn.words;
}
