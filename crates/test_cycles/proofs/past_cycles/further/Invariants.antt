use Rattle.std.proofs.Common.{All}
use Rattle.comp_trace.specs.CycleRuns.{IsParsedFor}
use Rattle.test_cycles.proofs.past_cycles.further.Given as goal

abbrev pub invariant-loop-one : goal.invariant-loop-one
invariant-loop-one g l = All (λ one. IsParsedFor 2 l.roots one.1) l.further.items
