use Rattle.comp_mutator.specs.Mutators.{IsMutatorOf}
use Rattle.timed_calls.proofs.running.build_all.Given as goal

abbrev pub invariant-loop-p : goal.invariant-loop-p
invariant-loop-p g l = IsMutatorOf l.space l.m
