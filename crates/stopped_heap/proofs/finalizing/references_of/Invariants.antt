use Rattle.std.proofs.Common.{◌≡◌, length, take}
use Rattle.rest_marks.specs.Meeting.{AllLead}
use Rattle.stopped_heap.specs.Ordered.{references_of_all}
use Rattle.stopped_heap.proofs.finalizing.references_of.Given as goal

abbrev pub invariant-loop-k : goal.invariant-loop-k
invariant-loop-k l = record {
  items : l.all.items ≡ references_of_all l.edition l.words (take l.k l.waiting);
  lead : AllLead l.edition (length l.words) l.all.items;
}
