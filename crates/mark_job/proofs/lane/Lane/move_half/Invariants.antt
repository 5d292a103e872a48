use Rattle.mark_job.specs.Asked.{AreMetIn}
use Rattle.mark_job.proofs.lane.Lane.move_half.Given as goal

abbrev pub invariant-loop : goal.invariant-loop
invariant-loop l = record {
  from : AreMetIn l.image l.self-inside.objects.items;
  to : AreMetIn l.image l.to-inside.objects.items;
}
