use Rattle.std.proofs.Common.{◌≤◌, take}
use Rattle.command_io.specs.LongLines.{longest}
use Rattle.command_io.proofs.LongLines.{IsReadTo}
use Rattle.command_io.proofs.texts.kept_of.Given as goal

-- all bytes before i were read
abbrev pub invariant-loop-i : goal.invariant-loop-i
invariant-loop-i l = record {
  read : IsReadTo l.room (take l.i l.piece) l.left;
  few : l.left ≤ longest;
}
