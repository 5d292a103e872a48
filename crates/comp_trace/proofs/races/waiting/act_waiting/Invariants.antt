use Rattle.std.proofs.Common.{◌≡◌}
use Rattle.comp_mutator.specs.Mutators.{pass_of, setup_of, IsMutatorOf}
use Rattle.comp_trace.proofs.Retries.{WaitsFor}
use Rattle.comp_trace.proofs.races.waiting.act_waiting.Given as goal

abbrev pub invariant-loop-of-retried : goal.invariant-loop-of-retried
invariant-loop-of-retried g l = record {
  of : IsMutatorOf l.space l.m;
  registers : l.registers ≡ l.initial.registers;
  waits : WaitsFor (setup_of l.space) l.action l.initial.registers (pass_of l.initial.m) (pass_of l.m);
}
