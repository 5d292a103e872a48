use Rattle.std.proofs.Common.{◌≡◌, ◌<◌, ◌≤◌, length}
use Rattle.young_heap.specs.Dirty.{AreMarked, LeadsAbove}
use Rattle.young_heap.proofs.dirtying.mark_words.Given as goal

-- the words before word j are marked
abbrev pub invariant-loop-j : goal.invariant-loop-j
invariant-loop-j l = record {
  marked : AreMarked l.fn.cards l.cards (λ n. (l.from ≤ n) × (n < l.j) × LeadsAbove l.edition l.words l.starts l.old n);
  long : length l.cards ≡ length l.fn.cards;
}
