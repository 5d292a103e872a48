use Rattle.std.proofs.Common.{◌<◌}
use Rattle.rest_marks.proofs.live_bits.head_before.Given as goal

abbrev pub invariant-loop-i : goal.invariant-loop-i
invariant-loop-i l = l.i < l.from

abbrev pub decreases-loop-i : goal.decreases-loop-i
decreases-loop-i l = l.i
