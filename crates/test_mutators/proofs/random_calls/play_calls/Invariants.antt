use Rattle.comp_mutator.specs.Mutators.{AreMutatorsOf}
use Rattle.test_mutators.proofs.random_calls.play_calls.Given as goal

abbrev pub invariant-loop-call : goal.invariant-loop-call
invariant-loop-call g l = AreMutatorsOf l.space l.mutators.items
