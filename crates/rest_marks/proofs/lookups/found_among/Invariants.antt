use Rattle.std.proofs.Common.{All}
use Rattle.rest_marks.specs.Reached.{IsReachedFrom}
use Rattle.rest_marks.proofs.lookups.found_among.Given as goal

abbrev pub invariant-loop-k : goal.invariant-loop-k
invariant-loop-k l = All (IsReachedFrom l.edition l.words l.roots) l.found.items
