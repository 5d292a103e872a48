-- The audit of a dump, or of a file of words, for the heap of a plan.
use Rattle.std.specs.Prelude.{◌≡◌, ℕ, ◌<◌, ◌≤◌, ◌%◌, ◌==◌, ◌⊎◌, nat_le, Bool, true, false, min, List, [], Result, Ok}
use Rattle.heap_layout.specs.Faults.{IsFirst}
use Rattle.heap_layout.specs.Heap.{Heap}
use Rattle.comp_dump.specs.Dumped.{Dumped, IsStored}
use Rattle.comp_dump.specs.DumpEncoding.{dump_bytes}
use Rattle.comp_dump.specs.DumpReading.{read_whole_by, Fails}
use Rattle.comp_dump.specs.WordsReading.{read_whole_words}
use Rattle.comp_dump.specs.declared.fault.AuditFault.{AuditFault}
use Rattle.comp_dump.specs.declared.fault.AuditFault.TheVariants as audit
use Rattle.comp_dump.specs.declared.fault.DumpFault.{DumpFault}
use Rattle.comp_dump.specs.declared.fault.DumpFault.TheVariants as dump
use Rattle.comp_audit.specs.Judged.{faults, whole_faults}
use Rattle.handle_base.specs.Answers.{bare, done, two}
use Rattle.handle_base.specs.Statuses.{bad_entry, bad_options, build_unclaimed, file_bad_field, file_bad_magic, file_trailing, file_truncated, loose_reference, out_of_memory, page_missing, stamp_missing, stamp_repeated, wrong_head, wrong_total, wrong_word}
use Rattle.handle_base.specs.declared.answer.Answer.{Answer}

-- a fault of the audit; of a bad entry the page, and the number of the entry, of which a page has at most 1,024
abbrev pub of_audit : AuditFault → Answer
of_audit (audit.WrongWord a) = bare wrong_word a
of_audit (audit.LooseReference a) = bare loose_reference a
of_audit (audit.BadEntry p i) = two bad_entry p (min i 4294967295)
of_audit (audit.StampRepeated stamp) = bare stamp_repeated stamp
of_audit (audit.StampMissing stamp) = bare stamp_missing stamp
of_audit audit.WrongTotal = bare wrong_total 0
of_audit (audit.BuildUnclaimed p) = bare build_unclaimed p
of_audit audit.WrongHead = bare wrong_head 0
of_audit (audit.PageMissing p) = bare page_missing p

-- no dump was read; bytes in memory have no device that could fail, and no status says that one did
abbrev pub of_dump : DumpFault → Answer
of_dump dump.Truncated = bare file_truncated 0
of_dump dump.TrailingBytes = bare file_trailing 0
of_dump dump.BadMagic = bare file_bad_magic 0
of_dump dump.BadField = bare file_bad_field 0
of_dump dump.OutOfMemory = bare out_of_memory 0
of_dump dump.Device = bare out_of_memory 0

-- there is no fault, and the answer has the live words; or it has the first fault
abbrev pub Judges : List AuditFault → ℕ → Answer → Type 0
Judges list total a = ((list ≡ []) × (a ≡ done total)) ⊎ ((fault : AuditFault) × IsFirst list fault × (a ≡ of_audit fault))

-- what options ask for: the first one that each compacted page was built, the second one that the bytes are a file of
-- words
abbrev pub asks_whole : ℕ → Bool
asks_whole options = (options % 2) == 1

abbrev pub asks_words : ℕ → Bool
asks_words options = nat_le 2 options

-- the faults of a dump, with the pages that were never built or without
abbrev pub faults_for : Bool → Heap → Dumped → List AuditFault
faults_for true heap dumped = whole_faults heap dumped
faults_for false heap dumped = faults heap dumped

-- bytes, read as a file of words or as a dump
abbrev pub read_by : Bool → List ℕ → Result Dumped DumpFault
read_by true bytes = read_whole_words true bytes
read_by false bytes = read_whole_by true bytes

-- these bytes are a file of words that stands for this dump, or the bytes of this dump
abbrev pub StandsFor : Bool → List ℕ → Dumped → Type 0
StandsFor true bytes dumped = read_whole_words true bytes ≡ Ok dumped
StandsFor false bytes dumped = bytes ≡ dump_bytes dumped

-- the bytes are a dump, and it is judged for this heap; or the answer is why none is read, or that there is no memory
abbrev pub JudgesBytes : Bool → Bool → List ℕ → Heap → Answer → Type 0
JudgesBytes whole words bytes heap a =
    ((dumped : Dumped) × StandsFor words bytes dumped × IsStored dumped × Judges (faults_for whole heap dumped) dumped.total a)
    ⊎ ((fault : DumpFault) × Fails fault (read_by words bytes) × (a ≡ of_dump fault))

-- the same by options, or these have no meaning
abbrev pub JudgesBy : ℕ → List ℕ → Heap → Answer → Type 0
JudgesBy options bytes heap a =
    ((3 < options) × (a ≡ bare bad_options options))
    ⊎ ((options ≤ 3) × JudgesBytes (asks_whole options) (asks_words options) bytes heap a)
