-- What is compared by an audit before anything is printed, in the terms of the functions that compare.
use Rattle.std.specs.Prelude.{◌≡◌, ℕ, Bool, List, Option, None, Some, ◌++◌, codes}
use Rattle.heap_layout.specs.Heap.{Heap}
use Rattle.comp_audit.specs.Explained.{Explains}
use Rattle.comp_audit.specs.Judged.{Judges}
use Rattle.comp_audit.specs.Wording.{◌then◌, counts_text, explanation_text}
use Rattle.comp_audit.specs.declared.verdict.Verdict.{Verdict}
use Rattle.comp_audit.specs.declared.verdict.Verdict.TheVariants.{No, Yes}
use Rattle.comp_dump.specs.Dumped.{Dumped}
use Rattle.comp_dump.specs.declared.fault.AuditFault.{AuditFault}
use Rattle.command_io.specs.Printing.{named}
use Rattle.commands.specs.HeapTasks.{faults_by}
use Rattle.commands.specs.declared.explained.Compared.{Compared}
use Rattle.commands.specs.declared.explained.Found.{Found}
use Rattle.commands.specs.declared.explained.Found.TheVariants.{Failed, Passed}

-- the verdict on a dump with this fault, or with none
abbrev pub verdict_of : Option AuditFault → Verdict
verdict_of None = Yes
verdict_of (Some fault) = No fault

-- what was found: the dump has no fault, and these are its live words; or this is its first fault, and so it is
-- explained
abbrev pub IsFound : Bool → Heap → Dumped → Found → Type 0
IsFound whole heap dump (Passed words) = Judges (faults_by whole heap dump) Yes × (words ≡ dump.total)
IsFound whole heap dump (Failed fault explanation) = Judges (faults_by whole heap dump) (No fault) × Explains heap dump fault explanation

-- what is said of what was found: `ok` and the live words, or what is wrong where
abbrev pub found_lines : Found → List ℕ
found_lines (Passed words) = named (codes "ok ") words
found_lines (Failed fault explanation) = explanation_text explanation ++ codes "\n"

-- the lines of what was compared: those of the counts, and what is said of what was found
abbrev pub compared_lines : Compared → List ℕ
compared_lines compared = counts_text compared.counts.built compared.counts.pages compared.counts.entries then codes "\n" then found_lines compared.found
