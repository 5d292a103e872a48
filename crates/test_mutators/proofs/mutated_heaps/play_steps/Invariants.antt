use Rattle.comp_mutator.specs.Mutators.{AreMutatorsOf}
use Rattle.test_mutators.proofs.mutated_heaps.play_steps.Given as goal

abbrev pub invariant-loop-row : goal.invariant-loop-row
invariant-loop-row g l = AreMutatorsOf l.space l.mutators.items
