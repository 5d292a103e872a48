use Rattle.comp_mutator.specs.Mutators.{IsMutatorOf}
use Rattle.test_dumps.proofs.dumped_runs.touch_all.Given as goal

abbrev pub invariant-loop-p : goal.invariant-loop-p
invariant-loop-p g l = IsMutatorOf l.space l.m
