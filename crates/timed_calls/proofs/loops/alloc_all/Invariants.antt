use Rattle.comp_mutator.specs.Mutators.{IsMutatorOf}
use Rattle.timed_calls.proofs.loops.alloc_all.Given as goal

abbrev pub invariant-loop : goal.invariant-loop
invariant-loop g l = IsMutatorOf l.space l.m
