use Rattle.std.proofs.Common.{◌≡◌, ℕ, ◌<◌, ◌≤◌, length, get_or}
use Rattle.mark_tables.specs.MarkBitmap.{set_bits}
use Rattle.rest_marks.specs.Looking.{kept_by}
use Rattle.young_heap.proofs.forwarding.settle_all.Given as goal

-- the first k words are forwarded
abbrev pub invariant-loop-k : goal.invariant-loop-k
invariant-loop-k l = record {
  long : length l.words ≡ length l.fn.words;
  done : (j : ℕ) → j < l.k → get_or l.words j 0 ≡ kept_by l.edition l.heads (set_bits l.bits) (get_or l.fn.words j 0);
  rest : (j : ℕ) → l.k ≤ j → get_or l.words j 0 ≡ get_or l.fn.words j 0;
}
