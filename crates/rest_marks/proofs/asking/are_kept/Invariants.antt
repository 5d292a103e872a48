use Rattle.std.proofs.Common.{◌-◌, ◌*◌}
use Rattle.rest_marks.specs.Kept.{AreKeptIn}
use Rattle.rest_marks.proofs.asking.are_kept.Given as goal

abbrev pub invariant-loop-next : goal.invariant-loop-next
invariant-loop-next l = AreKeptIn l.edition l.words l.heads (64 * l.first) l.next

abbrev pub decreases-loop-next : goal.decreases-loop-next
decreases-loop-next l = l.limit - l.next
