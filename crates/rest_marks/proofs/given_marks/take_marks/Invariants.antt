use Rattle.std.proofs.Common.{◌≡◌, ◌+◌, ◌-◌, length}
use Rattle.rest_marks.proofs.Taken.{AreTaken}
use Rattle.rest_marks.proofs.given_marks.take_marks.Given as goal

abbrev pub invariant-loop-next : goal.invariant-loop-next
invariant-loop-next l = record {
  taken : AreTaken l.edition l.words l.heads l.next l.bits;
  long : length l.bits ≡ length l.fn.bits;
}

abbrev pub decreases-loop-next : goal.decreases-loop-next
decreases-loop-next l = l.end + 1 - l.next
