use Rattle.std.proofs.Common.{take}
use Rattle.commands.specs.JoinedRaces.{IsFirstRefusedLine}
use Rattle.commands.proofs.by_line.first_refused_line.Given as goal

abbrev pub invariant-loop-run : goal.invariant-loop-run
invariant-loop-run l = IsFirstRefusedLine (take l.run-index l.runs) l.first
