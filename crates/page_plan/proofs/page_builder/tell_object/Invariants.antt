use Rattle.std.proofs.Common.{◌≡◌, ◌+◌, ◌-◌, ◌≤◌}
use Rattle.heap_layout.specs.Heap.{live}
use Rattle.page_plan.specs.Planned.{IsToldTo}
use Rattle.page_plan.proofs.page_builder.tell_object.Given as goal

-- the words before the next one are told, and all belong to the same object
abbrev pub invariant-loop-next : goal.invariant-loop-next
invariant-loop-next l = record {
  number : l.next.number ≡ l.fn.cursor.number;
  further : l.fn.cursor.new_index ≤ l.next.new_index;
  before : l.next.new_index ≤ l.after.new_index;
  within : l.next.within ≡ l.fn.cursor.within + (l.next.new_index - l.fn.cursor.new_index);
  told : IsToldTo (live l.plan) l.begin l.next.new_index l.kinds;
}

abbrev pub decreases-loop-next : goal.decreases-loop-next
decreases-loop-next l = l.after.new_index - l.next.new_index
