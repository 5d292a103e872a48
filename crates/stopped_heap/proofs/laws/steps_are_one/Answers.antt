use Rattle.std.proofs.Common.{[]}
use Rattle.stopped_heap.specs.Steps.{roots_of_all, kept_at_last}
use Rattle.stopped_heap.proofs.Once.{once}
use Rattle.stopped_heap.proofs.Stepping.{growth-alike, growth-together, steps-together}
use Rattle.stopped_heap.proofs.laws.steps_are_one.Goals as goal

pub returns-clause-growing : goal.returns-clause-growing
returns-clause-growing c = steps-together

pub returns-clause-one : goal.returns-clause-one
returns-clause-one c = λ edition words steps marks are reached.
    once edition words (roots_of_all steps) (kept_at_last [] steps) marks (steps-together edition words steps are) reached

pub returns-clause-growth : goal.returns-clause-growth
returns-clause-growth c = growth-together

pub returns-clause-alike : goal.returns-clause-alike
returns-clause-alike c = growth-alike
