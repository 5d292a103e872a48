use Rattle.std.proofs.Common.{◌≡◌, ◌≤◌, take}
use Rattle.heap_layout.specs.Heap.{live}
use Rattle.page_plan.specs.Sliding.{live_words}
use Rattle.comp_audit.proofs.explaining.objects.owner.Given as goal

-- the objects so far end before the word
abbrev pub invariant-loop-number : goal.invariant-loop-number
invariant-loop-number l = record {
  begin : l.begin ≡ live_words (take l.number (live l.plan));
  before : l.begin ≤ l.new_index;
}
