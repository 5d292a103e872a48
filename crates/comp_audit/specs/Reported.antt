-- What the checks answer. The faults of a dump stand in one list, in the order of the checks.
use Rattle.std.specs.Prelude.{◌≡◌, ℕ, List, [], ◌++◌, Option, Result, Ok, Err}
pub use Rattle.heap_layout.specs.Faults.{IsFirst}
use Rattle.comp_history.specs.Setup.{Setup}
use Rattle.comp_dump.specs.Dumped.{BuiltPage}
use Rattle.comp_audit.specs.Checks.{all_entries, all_stamps, each_built, build_faults, journal_faults, word_faults, is_start, reference_faults, repeat_faults, missing_faults, is_made_before, is_led, late_faults}
use Rattle.comp_dump.specs.declared.fault.AuditFault.{AuditFault}
use Rattle.comp_audit.specs.declared.checks.fault.CheckEnd.{CheckEnd}
use Rattle.comp_audit.specs.declared.checks.fault.CheckEnd.TheVariants as stop

-- checks 2, 3 and 4: the faults of single pages
abbrev pub page_faults : Setup → List (List ℕ) → List (Option BuiltPage) → List AuditFault
page_faults u builds records =
    build_faults builds records
    ++ (each_built (journal_faults u) records
    ++ each_built (word_faults u) records)

-- checks 5 to 8: the faults between pages
abbrev pub history_faults : Setup → List (Option BuiltPage) → List AuditFault
history_faults u records =
    each_built (reference_faults (is_start u.heap (all_entries records)) u) records
    ++ (repeat_faults (all_stamps records)
    ++ (missing_faults (all_stamps records)
    ++ late_faults (is_led u.heap (is_made_before (all_entries records))) records))

-- a check passes if there is no fault, and else answers the first; it may end early if memory runs out
abbrev pub Reports : List AuditFault → Result (Unit {0}) CheckEnd → Type 0
Reports list (Ok _) = list ≡ []
Reports list (Err stop.OutOfMemory) = Unit {0}
Reports list (Err (stop.Fault fault)) = IsFirst list fault
