use Rattle.std.proofs.Common.{◌+◌, ◌≤◌}
use Rattle.rest_marks.proofs.Starting.{IsLastFrom}
use Rattle.rest_marks.proofs.bit_search.last_head.Given as goal

abbrev pub invariant-loop-i : goal.invariant-loop-i
invariant-loop-i l = record {
  low : l.first ≤ l.i;
  high : l.i ≤ l.first + 64;
  last : IsLastFrom l.heads l.bits l.n l.i;
}

abbrev pub decreases-loop-i : goal.decreases-loop-i
decreases-loop-i l = l.i
