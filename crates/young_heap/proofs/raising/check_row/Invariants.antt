use Rattle.std.proofs.Common.{◌-◌, ◌≤◌}
use Rattle.young_heap.specs.Rows.{IsRowTo}
use Rattle.young_heap.proofs.raising.check_row.Given as goal

-- the words before the next object are a row
abbrev pub invariant-loop-next : goal.invariant-loop-next
invariant-loop-next l = record {
  row : IsRowTo l.edition l.words l.next l.from;
  within : l.next ≤ l.end;
}

abbrev pub decreases-loop-next : goal.decreases-loop-next
decreases-loop-next l = l.end - l.next
