use Rattle.std.proofs.Common.{◌≡◌, ◌≤◌, length, vec_capacity}
use Rattle.comp_mutator.specs.Lists.{Each}
use Rattle.comp_sweep.specs.Queues.{IsNew}
use Rattle.comp_sweep.proofs.splitting.empty_queues.Given as goal

abbrev pub invariant-loop : goal.invariant-loop
invariant-loop l = record {
  count : length l.queues.items ≡ l.counter;
  room : l.workers ≤ vec_capacity l.queues;
  new : Each l.queues.items IsNew;
}
