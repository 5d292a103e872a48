use Rattle.std.proofs.Common.{◌-◌, length}
use Rattle.comp_trace.proofs.Runners.{IsNextLine, Running}
use Rattle.comp_trace.proofs.races.runner.run_own.Given as goal

-- the lines before the index have run, and the line there is the mutator's next
abbrev pub invariant-loop-position : goal.invariant-loop-position
invariant-loop-position g l = record {
  next : IsNextLine l.lines l.position l.fn.runner;
  running : Running l.space l.lines l.position l.fn.runner l.runner;
}

abbrev pub decreases-loop-position : goal.decreases-loop-position
decreases-loop-position g l = length l.lines - l.position
