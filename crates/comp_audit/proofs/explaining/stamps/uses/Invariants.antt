use Rattle.std.proofs.Common.{◌≡◌, ◌*◌, ◌≤◌, map}
use Rattle.comp_dump.specs.Lists.{times}
use Rattle.comp_dump.specs.Merged.{entries_below, stamp_of}
use Rattle.comp_audit.specs.Checks.{journals_in}
use Rattle.comp_audit.proofs.explaining.stamps.uses.Given as goal

abbrev pub invariant-loop-p : goal.invariant-loop-p
invariant-loop-p l = record {
  uses : l.uses ≡ times l.stamp (map stamp_of (entries_below (journals_in l.dump.pages) l.p));
  few : l.uses ≤ 1024 * l.p;
}
