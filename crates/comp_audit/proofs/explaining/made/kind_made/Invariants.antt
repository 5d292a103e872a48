use Rattle.std.proofs.Common.{◌≡◌, drop}
use Rattle.std.specs.Prelude.{slice_get}
use Rattle.comp_dump.specs.Lawful.{kinds_in}
use Rattle.comp_audit.proofs.explaining.made.kind_made.Given as goal

-- the words after those of the entries so far
abbrev pub invariant-loop-entry : goal.invariant-loop-entry
invariant-loop-entry l = slice_get (kinds_in l.edition (drop l.entry-index l.journal)) l.left ≡ slice_get (kinds_in l.edition l.journal) l.offset
