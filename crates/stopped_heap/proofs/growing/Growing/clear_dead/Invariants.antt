use Rattle.std.proofs.Common.{◌≡◌, ℕ, ◌<◌, ◌≤◌, length, get_or}
use Rattle.stopped_heap.specs.Ordered.{or_null}
use Rattle.stopped_heap.proofs.growing.Growing.clear_dead.Given as goal

-- the first k words are cleared
abbrev pub invariant-loop-k : goal.invariant-loop-k
invariant-loop-k l = record {
  long : length l.words ≡ length l.fn.words;
  done : (j : ℕ) → j < l.k → get_or l.words j 0 ≡ or_null l.self.edition l.self.marks (get_or l.fn.words j 0);
  rest : (j : ℕ) → l.k ≤ j → get_or l.words j 0 ≡ get_or l.fn.words j 0;
}
