use Rattle.std.proofs.Common.{◌≤◌, vec_capacity}
use Rattle.young_heap.specs.Cards.{is_dirty, AreFound, AreGathered, AreGatheredWeak, IsOwner}
use Rattle.young_heap.specs.Young.{AreOld}
use Rattle.young_heap.proofs.remembering.gather_card.Given as goal

abbrev pub invariant-loop-j : goal.invariant-loop-j
invariant-loop-j l = record {
  found : AreFound l.edition l.words l.starts l.old (is_dirty l.cards) l.j l.fields.items;
  found_weak : AreFound l.edition l.words l.starts l.old (is_dirty l.cards) l.j l.weaks.items;
  gathered : AreOld l.edition l.words l.starts l.old → AreGathered l.edition l.words l.starts l.old (is_dirty l.cards) l.first l.fn.fields.items
      → AreGathered l.edition l.words l.starts l.old (is_dirty l.cards) l.j l.fields.items;
  gathered_weak : AreOld l.edition l.words l.starts l.old → AreGatheredWeak l.edition l.words l.starts l.old (is_dirty l.cards) l.first l.fn.weaks.items
      → AreGatheredWeak l.edition l.words l.starts l.old (is_dirty l.cards) l.j l.weaks.items;
  capacity : vec_capacity l.fn.fields ≤ vec_capacity l.fields;
  weak_capacity : vec_capacity l.fn.weaks ≤ vec_capacity l.weaks;
  owner_is : AreOld l.edition l.words l.starts l.old → IsOwner l.edition l.words l.starts l.old l.owner l.j;
}
