use Rattle.std.proofs.Common.{◌≡◌, ◌-◌, ◌%◌, ◌≤◌, ◌⊎◌, vec_capacity}
use Rattle.young_heap.specs.Cards.{is_dirty, AreFound, AreGathered, AreGatheredWeak}
use Rattle.young_heap.specs.Young.{AreOld}
use Rattle.young_heap.proofs.remembering.remember.Given as goal

abbrev pub invariant-loop-first : goal.invariant-loop-first
invariant-loop-first l = record {
  found : AreFound l.edition l.words l.starts l.old (is_dirty l.cards) l.first l.fields.items;
  found_weak : AreFound l.edition l.words l.starts l.old (is_dirty l.cards) l.first l.weaks.items;
  gathered : AreOld l.edition l.words l.starts l.old → AreGathered l.edition l.words l.starts l.old (is_dirty l.cards) l.first l.fields.items;
  gathered_weak : AreOld l.edition l.words l.starts l.old → AreGatheredWeak l.edition l.words l.starts l.old (is_dirty l.cards) l.first l.weaks.items;
  capacity : vec_capacity l.fn.fields ≤ vec_capacity l.fields;
  weak_capacity : vec_capacity l.fn.weaks ≤ vec_capacity l.weaks;
  within : l.first ≤ l.old;
  card : (l.first % 64 ≡ 0) ⊎ (l.first ≡ l.old);
}

abbrev pub decreases-loop-first : goal.decreases-loop-first
decreases-loop-first l = l.old - l.first
