use Rattle.std.proofs.Common.{ℕ, List, ◌++◌, take}
use Rattle.comp_journal.specs.declared.entry.Entry.{Entry}
use Rattle.comp_history.specs.Merged.{with_page}
use Rattle.comp_audit.specs.Noted.{Notes}
use Rattle.comp_audit.proofs.checks.starts.note_page.Given as goal

abbrev pub invariant-loop-entry : goal.invariant-loop-entry
invariant-loop-entry l = (all : List (ℕ × Entry)) → Notes l.fn.starts all → Notes l.starts (all ++ with_page l.p (take l.entry-index l.journal))
