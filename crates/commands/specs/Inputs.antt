-- What a task reads, in the order in which it is read, and why it is not read.
use Rattle.std.specs.Prelude.{◌≡◌, ◌⊎◌, ℕ, Bool, false, List, length, Option, Some, None, Result, Ok, IfSome, MatchOption, cond}
use Rattle.heap_layout.specs.Heap.{Heap}
use Rattle.comp_trace.specs.declared.text.line.Line.{Line}
use Rattle.comp_trace.specs.declared.text.roots.NewRoot.{NewRoot}
use Rattle.comp_dump.specs.Dumped.{Dumped, IsStored}
use Rattle.comp_dump.specs.DumpReading.{read_whole_by, Fails}
use Rattle.comp_dump.specs.WordsReading.{read_whole_words}
use Rattle.comp_dump.specs.declared.fault.DumpFault.{DumpFault}
use Rattle.moved_heaps.specs.Moved.{Moved}
use Rattle.moved_heaps.specs.MovedFiles as moved
use Rattle.moved_heaps.specs.MovedReading.{read_whole}
use Rattle.command_line.specs.declared.next.NextMarks.{NextMarks}
use Rattle.command_line.specs.declared.next.NextMarks.TheVariants as asking
use Rattle.command_line.specs.declared.next.NextRun.{NextRun}
use Rattle.command_io.specs.Disk.{Disk, RefusesFile, SomeFile}
use Rattle.command_io.specs.Images.{RefusesImage, SomeHeapAt}
use Rattle.command_io.specs.Texts.{AreMarksAt, AreRootsAt, HasLinesAt, RefusesMarksText, RefusesRootsText, RefusesText}
use Rattle.command_io.specs.declared.refusal.Input.TheVariants as inputs
use Rattle.command_io.specs.declared.refusal.CommandRefusal.{CommandRefusal}
use Rattle.command_io.specs.declared.refusal.CommandRefusal.TheVariants as refusals

-- why there is no heap: there is no image at the path, or it is refused
abbrev pub RefusesHeapAt : {F W : Type 0} → Disk F W → Bool → List ℕ → CommandRefusal → Type 0
RefusesHeapAt disk large path refusal = RefusesFile disk inputs.Image path (RefusesImage large) refusal

-- why not all is read of a task that reads a heap, and then more: there is no heap; or there is, and not the rest
abbrev pub RefusesThen : {F W : Type 0} → Disk F W → Bool → List ℕ → (Heap → CommandRefusal → Type 0) → CommandRefusal → Type 0
RefusesThen disk large image Rest refusal = RefusesHeapAt disk large image refusal ⊎ SomeHeapAt disk large image (λ heap. Rest heap refusal)

-- ---- a dump, or a file of words and roots that stands for one (`words`)

-- all bytes, read as it
abbrev pub read_by : Bool → Bool → List ℕ → Result Dumped DumpFault
read_by words large bytes = cond words (read_whole_words large bytes) (read_whole_by large bytes)

-- the bytes, if they are known, are read as this dump, to their end
abbrev pub IsDumpIn : Bool → Bool → Dumped → Option (List ℕ) → Type 0
IsDumpIn words large dump known = IsStored dump × IfSome known (λ bytes. read_by words large bytes ≡ Ok dump)

-- the bytes are no dump: this is their first fault
abbrev pub RefusesDump : Bool → Bool → CommandRefusal → Option (List ℕ) → Type 0
RefusesDump words large (refusals.Dump fault) known = IfSome known (λ bytes. Fails fault (read_by words large bytes))
RefusesDump words large _ known = ⊥

-- P holds of the heap of the image at a path, and of the dump at another
abbrev pub SomeAudit : {F W : Type 0} → Disk F W → Bool → Bool → List ℕ → List ℕ → (Heap → Dumped → Type 0) → Type 0
SomeAudit disk words large image path P = SomeHeapAt disk large image (λ heap. (dump : Dumped) × SomeFile disk inputs.Dump path (IsDumpIn words large dump) × P heap dump)

abbrev pub RefusesAuditAt : {F W : Type 0} → Disk F W → Bool → Bool → List ℕ → List ℕ → CommandRefusal → Type 0
RefusesAuditAt disk words large image path refusal = RefusesThen disk large image (λ heap. RefusesFile disk inputs.Dump path (RefusesDump words large)) refusal

-- ---- a moved heap

-- the bytes, if they are known, are read as this moved heap, to their end
abbrev pub IsMovedIn : Bool → Moved → Option (List ℕ) → Type 0
IsMovedIn large heap known = moved.IsStored heap × IfSome known (λ bytes. read_whole large bytes ≡ Ok heap)

-- the bytes are no moved heap: this is their first fault
abbrev pub RefusesBytes : Bool → CommandRefusal → Option (List ℕ) → Type 0
RefusesBytes large (refusals.Dump fault) known = IfSome known (λ bytes. Fails fault (read_whole large bytes))
RefusesBytes large _ known = ⊥

-- ---- a trace, and what is given for the next heap

-- P holds of the heap of the image at a path, and of the lines of the trace for it, at another path
abbrev pub SomeTrace : {F W : Type 0} → Disk F W → Bool → List ℕ → List ℕ → ℕ → (List Line → Heap → Type 0) → Type 0
SomeTrace disk large image trace mutators P = SomeHeapAt disk large image (λ heap. (lines : List Line) × HasLinesAt disk trace mutators (length heap.roots) lines × P lines heap)

abbrev pub RefusesTraceAt : {F W : Type 0} → Disk F W → Bool → List ℕ → List ℕ → ℕ → CommandRefusal → Type 0
RefusesTraceAt disk large image trace mutators refusal =
    RefusesThen disk large image (λ heap. RefusesFile disk inputs.Trace trace (RefusesText mutators (length heap.roots))) refusal

-- What is given for the next heap: its marks, or none if it is marked by what its roots reach; and its roots, if they
-- do not stay.
pub record Given : Type 0 where
  pub marks : Option (List ℕ)
  pub roots : Option (List NewRoot)

-- this is what is asked for, for this number of mutators
abbrev pub IsGivenAt : {F W : Type 0} → Disk F W → ℕ → NextMarks → Given → Type 0
IsGivenAt disk mutators (asking.Given path) given = (marks : List ℕ) × AreMarksAt disk path.now marks × (given ≡ record { marks = Some marks; roots = None })
IsGivenAt disk mutators asking.Reachable given = given ≡ record { marks = None; roots = None }
IsGivenAt disk mutators (asking.ReachableFrom path) given = (roots : List NewRoot) × AreRootsAt disk path.now mutators roots × (given ≡ record { marks = None; roots = Some roots })

-- the marks or the roots that are asked for are refused, or there are none at the path
abbrev pub RefusesGivenAt : {F W : Type 0} → Disk F W → ℕ → NextMarks → CommandRefusal → Type 0
RefusesGivenAt disk mutators (asking.Given path) refusal = RefusesFile disk inputs.Marks path.now RefusesMarksText refusal
RefusesGivenAt disk mutators asking.Reachable refusal = ⊥
RefusesGivenAt disk mutators (asking.ReachableFrom path) refusal = RefusesFile disk inputs.Roots path.now (RefusesRootsText mutators) refusal

-- P holds of the lines and of the heap of a run, and of what is given for the next heap
abbrev pub SomeCycle : {F W : Type 0} → Disk F W → NextRun → (List Line → Given → Heap → Type 0) → Type 0
SomeCycle disk asked P =
    SomeTrace disk asked.large asked.image.now asked.trace.now asked.mutators (λ lines heap. (given : Given) × IsGivenAt disk asked.mutators asked.marks given × P lines given heap)

abbrev pub RefusesCycleAt : {F W : Type 0} → Disk F W → NextRun → CommandRefusal → Type 0
RefusesCycleAt disk asked refusal =
    RefusesTraceAt disk asked.large asked.image.now asked.trace.now asked.mutators refusal
    ⊎ SomeTrace disk asked.large asked.image.now asked.trace.now asked.mutators (λ lines heap. RefusesGivenAt disk asked.mutators asked.marks refusal)

-- ---- a heap that is drawn, and a dump of it, if one is drawn too

-- P holds of the heap of the image at a path, and of the dump at another, if a path of a dump is given
abbrev pub SomeMap : {F W : Type 0} → Disk F W → Bool → List ℕ → Option (List ℕ) → (Heap → Option Dumped → Type 0) → Type 0
SomeMap disk large image dump P =
    MatchOption dump (SomeHeapAt disk large image (λ heap. P heap None)) (λ path. SomeAudit disk false large image path (λ heap read. P heap (Some read)))

abbrev pub RefusesMapAt : {F W : Type 0} → Disk F W → Bool → List ℕ → Option (List ℕ) → CommandRefusal → Type 0
RefusesMapAt disk large image dump refusal = MatchOption dump (RefusesHeapAt disk large image refusal) (λ path. RefusesAuditAt disk false large image path refusal)
