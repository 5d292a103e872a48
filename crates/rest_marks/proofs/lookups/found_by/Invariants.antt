use Rattle.std.proofs.Common.{◌≤◌, All}
use Rattle.rest_marks.specs.Following.{IsAhead}
use Rattle.rest_marks.specs.Reached.{IsReachedFrom}
use Rattle.rest_marks.proofs.lookups.found_by.Given as goal

abbrev pub invariant-loop-k : goal.invariant-loop-k
invariant-loop-k l = record {
  found : All (IsReachedFrom l.edition l.words l.roots) l.found.items;
  ahead : IsAhead l.words l.objects l.headers l.ahead;
  order : l.ahead.from ≤ l.k;
}
