use Rattle.comp_mutator.specs.Mutators.{AreMutatorsOf}
use Rattle.test_dumps.proofs.dumped_runs.expect_calls.Given as goal

abbrev pub invariant-loop-at : goal.invariant-loop-at
invariant-loop-at g l = AreMutatorsOf l.space l.mutators
