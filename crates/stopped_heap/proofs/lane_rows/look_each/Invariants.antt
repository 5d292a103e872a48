use Rattle.std.proofs.Common.{◌≡◌, ◌-◌, ◌≤◌, length, drop}
use Rattle.rest_marks.specs.Looks.{rows_of}
use Rattle.rest_marks.specs.Meeting.{AreMet, AreOnce}
use Rattle.stopped_heap.proofs.LanedRows.{AreLaneTaken}
use Rattle.stopped_heap.proofs.lane_rows.look_each.Given as goal

-- so many rows were taken, and the others are those of the words that are left
abbrev pub invariant-loop-at : goal.invariant-loop-at
invariant-loop-at l = record {
  first : l.first ≤ l.next;
  within : l.next ≤ length l.queue.items;
  place : l.at ≤ length l.rows;
  some : l.next - l.first ≤ length (rows_of l.edition l.rows);
  left : drop (l.next - l.first) (rows_of l.edition l.rows) ≡ rows_of l.edition (drop l.at l.rows);
  met : AreMet l.queue.items l.heads;
  once : AreOnce l.count l.queue.items;
  known : length l.known ≡ length l.fn.known;
  heads : length l.heads ≡ length l.fn.heads;
  bits : length l.bits ≡ length l.fn.bits;
  taken : AreLaneTaken l.edition l.count l.fn.queue.items l.queue.items l.first (l.next - l.first) (rows_of l.edition l.rows) l.fn.known l.fn.bits l.known l.bits;
}

abbrev pub decreases-loop-at : goal.decreases-loop-at
decreases-loop-at l = length l.rows - l.at
