-- What is said of the first fault of a dump, or of a file of words, for the heap of a plan.
use Rattle.std.specs.Prelude.{◌≡◌, ℕ, ◌<◌, ◌≤◌, ◌⊎◌, Bool, List, []}
use Rattle.heap_layout.specs.Faults.{IsFirst}
use Rattle.heap_layout.specs.Heap.{Heap}
use Rattle.comp_dump.specs.Dumped.{Dumped, IsStored}
use Rattle.comp_dump.specs.DumpReading.{Fails}
use Rattle.comp_dump.specs.declared.fault.AuditFault.{AuditFault}
use Rattle.comp_dump.specs.declared.fault.DumpFault.{DumpFault}
use Rattle.comp_audit.specs.Explained.{Explains}
use Rattle.comp_audit.specs.Wording.{explanation_text}
use Rattle.comp_audit.specs.declared.explanation.Explanation.{Explanation}
use Rattle.handle_base.specs.Answers.{bare, done}
use Rattle.handle_base.specs.Statuses.{bad_options}
use Rattle.handle_base.specs.Copying.{CopiesAll}
use Rattle.file_handle.specs.Judging.{asks_whole, asks_words, faults_for, of_dump, read_by, StandsFor}
use Rattle.handle_base.specs.declared.answer.Answer.{Answer}

-- the text explains this fault of a dump
abbrev pub TellsFault : Heap → Dumped → AuditFault → List ℕ → Type 0
TellsFault heap dumped fault text = (explanation : Explanation) × Explains heap dumped fault explanation × (text ≡ explanation_text explanation)

-- there is no fault, and nothing is said; or what is said of the first one is copied
abbrev pub Tells : List AuditFault → Heap → Dumped → List ℕ → List ℕ → Answer → Type 0
Tells list heap dumped before after a =
    ((list ≡ []) × (after ≡ before) × (a ≡ done 0))
    ⊎ ((fault : AuditFault) × (text : List ℕ) × IsFirst list fault × TellsFault heap dumped fault text × CopiesAll text before after a)

-- the bytes are a dump, and its first fault is told; or the buffer stays as it was, and the answer is why none is read,
-- or that there is no memory
abbrev pub ExplainsBytes : Bool → Bool → List ℕ → List ℕ → List ℕ → Heap → Answer → Type 0
ExplainsBytes whole words bytes before after heap a =
    ((dumped : Dumped) × StandsFor words bytes dumped × IsStored dumped × Tells (faults_for whole heap dumped) heap dumped before after a)
    ⊎ ((fault : DumpFault) × Fails fault (read_by words bytes) × (after ≡ before) × (a ≡ of_dump fault))

-- the same by options, or these have no meaning
abbrev pub ExplainsBy : ℕ → List ℕ → List ℕ → List ℕ → Heap → Answer → Type 0
ExplainsBy options bytes before after heap a =
    ((3 < options) × (after ≡ before) × (a ≡ bare bad_options options))
    ⊎ ((options ≤ 3) × ExplainsBytes (asks_whole options) (asks_words options) bytes before after heap a)
