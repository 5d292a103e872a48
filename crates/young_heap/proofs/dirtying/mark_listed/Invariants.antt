use Rattle.std.proofs.Common.{◌≡◌, ℕ, ◌<◌, get_or, length}
use Rattle.young_heap.specs.Dirty.{AreMarked, LeadsAbove}
use Rattle.young_heap.proofs.dirtying.mark_listed.Given as goal

-- the first n of the list are marked
abbrev pub invariant-loop-n : goal.invariant-loop-n
invariant-loop-n l = record {
  marked : AreMarked l.fn.cards l.cards
      (λ j. ((k : ℕ) × (k < l.n) × (get_or l.list k 0 ≡ j)) × LeadsAbove l.edition l.words l.starts l.old j);
  long : length l.cards ≡ length l.fn.cards;
}
