use Rattle.std.proofs.Common.{◌≡◌, ℕ, ◌<◌, ◌≤◌, length, get_or}
use Rattle.pinned_heap.specs.Tables.{kept_at_place}
use Rattle.pinned_heap.proofs.placing.settle_all.Given as goal

-- the words before this one lead where they will
abbrev pub invariant-loop-word : goal.invariant-loop-word
invariant-loop-word l = record {
  long : length l.word-items ≡ length l.fn.words;
  done : (j : ℕ) → j < l.word-index → get_or l.word-items j 0 ≡ kept_at_place l.edition l.heads l.bits l.stays (get_or l.fn.words j 0);
  rest : (j : ℕ) → l.word-index ≤ j → get_or l.word-items j 0 ≡ get_or l.fn.words j 0;
}
