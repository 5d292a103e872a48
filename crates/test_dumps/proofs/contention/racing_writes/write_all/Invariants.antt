use Rattle.comp_mutator.specs.Mutators.{IsMutatorOf}
use Rattle.test_dumps.proofs.contention.racing_writes.write_all.Given as goal

abbrev pub invariant-loop-step : goal.invariant-loop-step
invariant-loop-step g l = IsMutatorOf l.space l.m
