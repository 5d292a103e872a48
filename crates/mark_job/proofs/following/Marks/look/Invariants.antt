use Rattle.std.proofs.Common.{◌≡◌, ◌≤◌}
use Rattle.rest_marks.specs.Following.{IsAhead}
use Rattle.mark_job.proofs.following.Marks.look.Given as goal

abbrev pub invariant-loop : goal.invariant-loop
invariant-loop l = record {
  table : l.met.table ≡ l.fn.met.table;
  ahead : IsAhead l.words l.lane-inside.objects.items l.headers l.ahead;
  order : l.ahead.from ≤ l.lane-inside.next;
}
