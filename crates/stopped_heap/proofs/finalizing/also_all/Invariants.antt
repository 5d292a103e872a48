use Rattle.std.proofs.Common.{◌≡◌, ℕ, ◌-◌, ◌≤◌, List, ◌++◌, length, take}
use Rattle.rest_marks.specs.Reached.{AreReached}
use Rattle.stopped_heap.proofs.finalizing.also_all.Given as goal

abbrev pub invariant-loop-next : goal.invariant-loop-next
invariant-loop-next l = record {
  grown : (roots : List ℕ) → AreReached l.edition l.words roots l.fn.growing.marks → AreReached l.edition l.words (roots ++ take l.next l.more) l.growing.marks;
  words : l.growing.words ≡ l.words;
  edition : l.growing.edition ≡ l.edition;
  room : l.growing.room ≡ l.fn.growing.room;
  within : l.next ≤ length l.more;
}

abbrev pub decreases-loop-next : goal.decreases-loop-next
decreases-loop-next l = length l.more - l.next
