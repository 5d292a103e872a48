use Rattle.comp_mutator.specs.Mutators.{AreMutatorsOf}
use Rattle.refused_runs.proofs.mutator_runs.are_answered.Given as goal

abbrev pub invariant-loop-call : goal.invariant-loop-call
invariant-loop-call g l = AreMutatorsOf l.space l.mutators.items
