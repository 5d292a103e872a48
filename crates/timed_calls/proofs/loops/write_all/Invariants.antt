use Rattle.comp_mutator.specs.Mutators.{IsMutatorOf}
use Rattle.timed_calls.proofs.loops.write_all.Given as goal

abbrev pub invariant-loop-value : goal.invariant-loop-value
invariant-loop-value g l = IsMutatorOf l.space l.m
