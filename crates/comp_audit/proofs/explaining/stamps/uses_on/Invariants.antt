use Rattle.std.proofs.Common.{◌≡◌, ◌+◌, ◌≤◌, drop, map}
use Rattle.comp_dump.specs.Entry.{Entry}
use Rattle.comp_dump.specs.Lists.{times}
use Rattle.comp_audit.proofs.explaining.stamps.uses_on.Given as goal

abbrev pub invariant-loop-entry : goal.invariant-loop-entry
invariant-loop-entry l = record {
  uses : l.uses + times l.stamp (map (λ (e : Entry). e.stamp) (drop l.entry-index l.journal)) ≡ times l.stamp (map (λ (e : Entry). e.stamp) l.journal);
  few : l.uses ≤ l.entry-index;
}
