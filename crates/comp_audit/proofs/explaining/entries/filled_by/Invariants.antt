use Rattle.std.proofs.Common.{◌≡◌, ◌+◌, ◌*◌, ◌^◌, ◌≤◌, drop}
use Rattle.comp_dump.specs.Lawful.{filled}
use Rattle.comp_audit.proofs.explaining.entries.filled_by.Given as goal

abbrev pub invariant-loop-entry : goal.invariant-loop-entry
invariant-loop-entry l = record {
  filled : l.filled + filled l.edition (drop l.entry-index l.journal) ≡ filled l.edition l.journal;
  few : l.filled ≤ 2 ^ 32 * l.entry-index;
}
