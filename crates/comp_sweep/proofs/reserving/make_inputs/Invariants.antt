use Rattle.std.proofs.Common.{◌≡◌, ◌+◌, ◌≤◌, ◌++◌, map, length, vec_capacity}
use Rattle.comp_mutator.specs.Lists.{Each}
use Rattle.comp_sweep.specs.Workers.{input_queue, HasNoRegion}
use Rattle.comp_sweep.proofs.reserving.make_inputs.Given as goal

abbrev pub invariant-loop-queue : goal.invariant-loop-queue
invariant-loop-queue g l = record {
  made : map input_queue l.inputs.items ++ l.queue-iterator.rest.items ≡ l.fn.queues.items;
  none : Each l.inputs.items HasNoRegion;
  room : length l.inputs.items + length l.queue-iterator.rest.items ≤ vec_capacity l.inputs;
}
