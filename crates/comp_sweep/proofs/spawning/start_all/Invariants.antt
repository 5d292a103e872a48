use Rattle.std.specs.List.{AllZip}
use Rattle.std.proofs.Common.{◌≡◌, ◌≤◌, ◌+◌, ◌++◌, List, length, vec_capacity}
use Rattle.comp_sweep.specs.Workers.{HasBegun}
use Rattle.comp_sweep.proofs.spawning.start_all.Given as goal

abbrev pub invariant-loop-worker : goal.invariant-loop-worker
invariant-loop-worker g l = record {
  begun : (before : List _) × (before ++ l.worker-iterator.rest.items ≡ l.fn.workers.items) × AllZip (HasBegun l.space) before l.started.items;
  room : length l.started.items + length l.worker-iterator.rest.items ≤ vec_capacity l.started;
}
