use Rattle.std.proofs.Common.{◌≡◌, ◌++◌, map, take}
use Rattle.comp_journal.specs.declared.entry.Entry.{Entry}
use Rattle.comp_audit.proofs.checks.stamps.add_stamps.Given as goal

abbrev pub invariant-loop-entry : goal.invariant-loop-entry
invariant-loop-entry l = l.stamps.items ≡ l.fn.stamps.items ++ map (λ (e : Entry). e.stamp) (take l.entry-index l.journal)
