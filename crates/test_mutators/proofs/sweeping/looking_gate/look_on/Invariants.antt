use Rattle.comp_mutator.specs.Mutators.{IsMutatorOf}
use Rattle.test_mutators.proofs.sweeping.looking_gate.look_on.Given as goal

abbrev pub invariant-loop : goal.invariant-loop
invariant-loop g l = IsMutatorOf l.space l.m
