use Rattle.std.proofs.Common.{◌≡◌, ℕ, true, ◌<◌, ◌≤◌, get_or, vec_capacity}
use Rattle.reachability.specs.Queue.{has}
use Rattle.young_heap.specs.Cards.{AreFound, AreGathered, AreGatheredWeak}
use Rattle.young_heap.specs.Listing.{IsField}
use Rattle.young_heap.specs.Young.{AreOld}
use Rattle.young_heap.proofs.listing.remember_by.Given as goal

-- the first k of the list are below word `next`, up to which all is gathered
abbrev pub invariant-loop-k : goal.invariant-loop-k
invariant-loop-k l = record {
  found : AreFound l.edition l.words l.starts l.old (has l.list) l.next l.fields.items;
  found_weak : AreFound l.edition l.words l.starts l.old (has l.list) l.next l.weaks.items;
  gathered : AreOld l.edition l.words l.starts l.old → AreGathered l.edition l.words l.starts l.old (has l.list) l.next l.fields.items;
  gathered_weak : AreOld l.edition l.words l.starts l.old → AreGatheredWeak l.edition l.words l.starts l.old (has l.list) l.next l.weaks.items;
  fields_are : AreOld l.edition l.words l.starts l.old → (i : ℕ) → has l.list i ≡ true → i < l.next → IsField l.edition l.words l.starts l.old i;
  before : (m : ℕ) → m < l.k → get_or l.list m 0 < l.next;
  low : l.next ≤ l.old;
  capacity : vec_capacity l.fn.fields ≤ vec_capacity l.fields;
  weak_capacity : vec_capacity l.fn.weaks ≤ vec_capacity l.weaks;
}
