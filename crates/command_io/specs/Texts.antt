-- What is known of the texts at paths: a trace, marks and roots; and of the program's own file.
use Rattle.std.specs.Prelude.{◌≡◌, ℕ, List, Option, IfSome, Ok, Err}
use Rattle.comp_trace.specs.Grammar.{trace_of, IsReadAs}
use Rattle.comp_trace.specs.MarksText.{marks_of}
use Rattle.comp_trace.specs.RootsText.{new_roots_of}
use Rattle.comp_trace.specs.declared.text.line.Line.{Line}
use Rattle.comp_trace.specs.declared.text.roots.NewRoot.{NewRoot}
use Rattle.command_io.specs.Disk.{Disk, SomeFile}
use Rattle.command_io.specs.LongLines.{read_of}
use Rattle.command_io.specs.declared.refusal.Input.TheVariants as inputs
use Rattle.command_io.specs.declared.refusal.CommandRefusal.{CommandRefusal}
use Rattle.command_io.specs.declared.refusal.CommandRefusal.TheVariants.{BadMarks, BadRoots, OutOfMemory, ReadFailed, Trace}

-- P holds of some text; the bytes of the file, if they are known, are this text
abbrev pub SomeText : (List ℕ → Type 0) → Option (List ℕ) → Type 0
SomeText P known = (text : List ℕ) × IfSome known (λ bytes. bytes ≡ text) × P text

-- P holds of what is read of some text; the bytes of the file, if they are known, are the text. A line that is too long
-- is the last that is read, and has no line feed there; so it is none of the lines of a trace, of marks or of roots.
abbrev pub SomeRead : (List ℕ → Type 0) → Option (List ℕ) → Type 0
SomeRead P known = (text : List ℕ) × IfSome known (λ bytes. read_of bytes ≡ text) × P text

-- the text has these lines, for these numbers of mutators and shared roots
abbrev pub HasLines : ℕ → ℕ → List Line → List ℕ → Type 0
HasLines mutators roots lines text = trace_of mutators roots text ≡ Ok lines

-- some trace that can be read at the path has these lines
abbrev pub HasLinesAt : {F W : Type 0} → Disk F W → List ℕ → ℕ → ℕ → List Line → Type 0
HasLinesAt disk path mutators roots lines = SomeFile disk inputs.Trace path (SomeText (HasLines mutators roots lines))

-- the text is no trace, for its first fault; or a call of the reader failed
abbrev pub RefusesText : ℕ → ℕ → CommandRefusal → Option (List ℕ) → Type 0
RefusesText mutators roots (ReadFailed inputs.Trace) known = Unit {0}
RefusesText mutators roots (Trace fault) known = SomeRead (λ text. IsReadAs {A = List Line} (λ lines. lines) (Err fault) (trace_of mutators roots text)) known
RefusesText mutators roots _ known = ⊥

-- some marks that can be read at the path are these
abbrev pub AreMarksAt : {F W : Type 0} → Disk F W → List ℕ → List ℕ → Type 0
AreMarksAt disk path marks = SomeFile disk inputs.Marks path (SomeText (λ text. marks_of text ≡ Ok marks))

-- this line of the text is the first that is no mark; or a call of the reader failed, or memory ran out
abbrev pub RefusesMarksText : CommandRefusal → Option (List ℕ) → Type 0
RefusesMarksText (ReadFailed inputs.Marks) known = Unit {0}
RefusesMarksText (BadMarks n) known = SomeRead (λ text. marks_of text ≡ Err n) known
RefusesMarksText OutOfMemory known = Unit {0}
RefusesMarksText _ known = ⊥

-- some roots that can be read at the path are these
abbrev pub AreRootsAt : {F W : Type 0} → Disk F W → List ℕ → ℕ → List NewRoot → Type 0
AreRootsAt disk path mutators roots = SomeFile disk inputs.Roots path (SomeText (λ text. new_roots_of mutators text ≡ Ok roots))

-- this line of the text is the first that is no root; or a call of the reader failed, or memory ran out
abbrev pub RefusesRootsText : ℕ → CommandRefusal → Option (List ℕ) → Type 0
RefusesRootsText mutators (ReadFailed inputs.Roots) known = Unit {0}
RefusesRootsText mutators (BadRoots n) known = SomeRead (λ text. new_roots_of mutators text ≡ Err n) known
RefusesRootsText mutators OutOfMemory known = Unit {0}
RefusesRootsText mutators _ known = ⊥

-- the program's file, which can be read at the path, has these bytes
abbrev pub IsProgramAt : {F W : Type 0} → Disk F W → List ℕ → List ℕ → Type 0
IsProgramAt disk path bytes = SomeFile disk inputs.Program path (SomeText (λ text. text ≡ bytes))

-- P holds of the bytes of the program's file at the path
abbrev pub SomeProgramAt : {F W : Type 0} → Disk F W → List ℕ → (List ℕ → Type 0) → Type 0
SomeProgramAt disk path P = (bytes : List ℕ) × IsProgramAt disk path bytes × P bytes

-- the program's file was not read whole: a call of the reader failed, or memory ran out
abbrev pub RefusesProgram : CommandRefusal → Option (List ℕ) → Type 0
RefusesProgram (ReadFailed inputs.Program) known = Unit {0}
RefusesProgram OutOfMemory known = Unit {0}
RefusesProgram _ known = ⊥
