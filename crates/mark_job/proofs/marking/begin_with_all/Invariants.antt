use Rattle.std.proofs.Common.{◌≡◌, length}
use Rattle.mark_job.specs.Marking.{AreMarkedTo}
use Rattle.mark_job.proofs.marking.begin_with_all.Given as goal

abbrev pub invariant-loop-k : goal.invariant-loop-k
invariant-loop-k l = record {
  long : length l.heads ≡ length l.fn.heads;
  marked : AreMarkedTo l.count l.from l.k l.heads;
}
