use Rattle.comp_dump.specs.Merged.{entries_below}
use Rattle.comp_audit.specs.Checks.{journals_in}
use Rattle.comp_audit.specs.EntryCauses.{IsHeaderStamp}
use Rattle.comp_audit.proofs.explaining.made.header_stamp.Given as goal

-- the least stamp on the pages so far
abbrev pub invariant-loop-p : goal.invariant-loop-p
invariant-loop-p l = IsHeaderStamp (entries_below (journals_in l.dump.pages) l.p) l.address l.least
