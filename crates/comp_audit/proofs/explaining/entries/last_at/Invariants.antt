use Rattle.std.proofs.Common.{take}
use Rattle.comp_audit.specs.Explained.{IsLastAt}
use Rattle.comp_audit.proofs.explaining.entries.last_at.Given as goal

-- the last of the entries so far
abbrev pub invariant-loop-number : goal.invariant-loop-number
invariant-loop-number l = IsLastAt (take l.number l.journal) l.offset l.last
