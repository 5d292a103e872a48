use Rattle.std.proofs.Common.{◌≡◌, ◌+◌, ◌*◌, ◌≤◌, drop, length}
use Rattle.comp_dump.specs.Lists.{total}
use Rattle.comp_dump.specs.Merged.{entries_below}
use Rattle.comp_audit.specs.Checks.{journals_in}
use Rattle.comp_audit.specs.Meant.{built_count}
use Rattle.comp_audit.proofs.explaining.sums.count.Given as goal

abbrev pub invariant-loop-p : goal.invariant-loop-p
invariant-loop-p l = record {
  built : l.built + total built_count (drop l.p l.dump.pages) ≡ total built_count l.dump.pages;
  few_built : l.built ≤ l.p;
  entries : l.entries ≡ length (entries_below (journals_in l.dump.pages) l.p);
  few_entries : l.entries ≤ 1024 * l.p;
}
