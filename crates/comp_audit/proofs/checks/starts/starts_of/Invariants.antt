use Rattle.comp_history.specs.Merged.{entries_below}
use Rattle.comp_audit.specs.Checks.{journals_in}
use Rattle.comp_audit.specs.Noted.{Notes}
use Rattle.comp_audit.proofs.checks.starts.starts_of.Given as goal

-- the headers of the pages so far are noted
abbrev pub invariant-loop-p : goal.invariant-loop-p
invariant-loop-p l = Notes l.starts (entries_below (journals_in l.fn.setting.dump.now.pages) l.p)
