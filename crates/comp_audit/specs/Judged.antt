-- What the audit answers: yes if a dump has no fault, else the first fault.
use Rattle.std.specs.Prelude.{◌≡◌, ℕ, List, [], ◌++◌, Option, None, is_some, slice_index_or}
use Rattle.std.specs.List.{flat_map, range_with_len}
use Rattle.heap_layout.specs.Faults.{unless}
use Rattle.heap_layout.specs.Heap.{Heap, live}
use Rattle.page_plan.specs.Sliding as sliding
use Rattle.comp_dump.specs.Dumped.{BuiltPage}
use Rattle.comp_dump.specs.Dumped.{Dumped}
use Rattle.comp_audit.specs.Checks.{head_faults, setup_for, total_faults}
use Rattle.comp_audit.specs.Reported.{history_faults, page_faults, IsFirst}
use Rattle.comp_dump.specs.declared.fault.AuditFault.{AuditFault}
use Rattle.comp_dump.specs.declared.fault.AuditFault.TheVariants.{PageMissing}
use Rattle.comp_audit.specs.declared.verdict.Verdict.{Verdict}
use Rattle.comp_audit.specs.declared.verdict.Verdict.TheVariants.{Yes, No}

-- all faults of a dump, if this heap was compacted
abbrev pub faults : Heap → Dumped → List AuditFault
faults heap dump =
    let u = setup_for heap dump.fresh dump.mutators in
    head_faults u dump.edition dump.roots dump.pages
    ++ (page_faults u dump.builds dump.pages
    ++ (history_faults u dump.pages
    ++ total_faults heap dump.total dump.pages))

-- the first n pages that were never built
abbrev pub missing_pages : ℕ → List (Option BuiltPage) → List AuditFault
missing_pages n records = flat_map (λ p. unless (is_some (slice_index_or records p None)) (PageMissing p)) (range_with_len 0 n)

-- all faults of a dump that is to be whole: after the others, the compacted pages that were never built
abbrev pub whole_faults : Heap → Dumped → List AuditFault
whole_faults heap dump = faults heap dump ++ missing_pages (sliding.pages (live heap)) dump.pages

-- the verdict is yes if there is no fault, else the first fault
abbrev pub Judges : List AuditFault → Verdict → Type 0
Judges list Yes = list ≡ []
Judges list (No fault) = IsFirst list fault
