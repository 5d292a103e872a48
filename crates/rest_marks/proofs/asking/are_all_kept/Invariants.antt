use Rattle.std.proofs.Common.{◌*◌}
use Rattle.rest_marks.specs.Kept.{AreKeptIn}
use Rattle.rest_marks.proofs.asking.are_all_kept.Given as goal

abbrev pub invariant-loop-part : goal.invariant-loop-part
invariant-loop-part g l = AreKeptIn l.fn.edition l.words l.heads 0 (64 * l.next)
