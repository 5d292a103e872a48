use Rattle.std.proofs.Common.{ℕ, List, ◌++◌, take}
use Rattle.comp_dump.specs.Entry.{Entry}
use Rattle.comp_dump.specs.Merged.{with_page}
use Rattle.comp_audit.specs.EntryCauses.{IsHeaderStamp}
use Rattle.comp_audit.proofs.explaining.made.least_on.Given as goal

abbrev pub invariant-loop-entry : goal.invariant-loop-entry
invariant-loop-entry l =
    (all : List (ℕ × Entry)) → IsHeaderStamp all l.address l.fn.least → IsHeaderStamp (all ++ with_page l.p (take l.entry-index l.journal)) l.address l.least
