use Rattle.std.proofs.Common.{◌≤◌}
use Rattle.rest_marks.specs.Following.{IsAhead}
use Rattle.mark_job.specs.Asked.{AreMetIn}
use Rattle.mark_job.proofs.looking.look.Given as goal

abbrev pub invariant-loop : goal.invariant-loop
invariant-loop l = record {
  met : AreMetIn l.image l.lane-inside.objects.items;
  ahead : IsAhead l.image.words l.lane-inside.objects.items l.headers l.ahead;
  order : l.ahead.from ≤ l.lane-inside.next;
}
