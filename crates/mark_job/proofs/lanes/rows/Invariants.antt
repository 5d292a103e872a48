use Rattle.std.proofs.Common.{◌≡◌, All, length}
use Rattle.mark_job.specs.Asked.{AreMetIn}
use Rattle.mark_job.proofs.lanes.rows.Given as goal

abbrev pub invariant-loop : goal.invariant-loop
invariant-loop l = record {
  count : length l.rows.items ≡ l.counter;
  met : All (AreMetIn l.image) l.rows.items;
}
