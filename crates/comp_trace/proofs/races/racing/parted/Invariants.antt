use Rattle.std.proofs.Common.{◌≡◌, ◌+◌, ◌≤◌, ◌++◌, map, length, vec_capacity}
use Rattle.comp_trace.specs.Runners.{mutator_of, run_of}
use Rattle.comp_trace.proofs.races.racing.parted.Given as goal

abbrev pub invariant-loop-runner : goal.invariant-loop-runner
invariant-loop-runner g l = record {
  mutators : l.mutators.items ++ map mutator_of l.runner-iterator.rest.items ≡ map mutator_of l.fn.runners.items;
  runs : l.runs.items ++ map run_of l.runner-iterator.rest.items ≡ map run_of l.fn.runners.items;
  mutator_room : length l.mutators.items + length l.runner-iterator.rest.items ≤ vec_capacity l.mutators;
  run_room : length l.runs.items + length l.runner-iterator.rest.items ≤ vec_capacity l.runs;
}
