use Rattle.comp_mutator.specs.Mutators.{IsMutatorOf}
use Rattle.test_mutators.proofs.mutators_at_once.play_alone.Given as goal

abbrev pub invariant-loop-step : goal.invariant-loop-step
invariant-loop-step g l = IsMutatorOf l.space l.m
