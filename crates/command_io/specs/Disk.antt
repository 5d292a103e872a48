-- What is known of the files that a command reads and makes.
use Rattle.std.specs.Prelude.{◌≡◌, ◌⊎◌, ℕ, Bool, true, false, MatchBool, List, Option}
use Rattle.std.specs.Io.KnownBytes.{Appends}
use Rattle.heap_layout.specs.Counted.{failures_of, inner_of}
use Rattle.heap_layout.specs.declared.counted.Counted.{Counted}
use Rattle.heap_layout.specs.declared.fault.LayoutFault.TheVariants as layouts
use Rattle.heap_layout.specs.Writing.{AppendsSome}
use Rattle.comp_dump.specs.declared.fault.DumpFault.TheVariants as dumps
use Rattle.command_io.specs.declared.refusal.Input.{Input}
use Rattle.command_io.specs.declared.refusal.Output.{Output}
use Rattle.command_io.specs.declared.refusal.Output.TheVariants as outputs
use Rattle.command_io.specs.declared.refusal.CommandRefusal.{CommandRefusal}
use Rattle.command_io.specs.declared.refusal.CommandRefusal.TheVariants.{CannotCreate, CannotOpen, CannotPrint, CannotWrite, Dump, Layout, OutOfMemory, ReadFailed}

-- What is known of files of each kind, by their paths. The files are of the type F, and their writers of the type W.
pub record Disk (F W : Type 0) : Type 1 where
  -- a file that can be read at this path has these bytes, if they are known
  pub holds : Input → List ℕ → Option (List ℕ) → Type 0
  -- no file can be opened at this path
  pub lacks : Input → List ℕ → Type 0
  -- a file that is created at this path is written by this writer
  pub makes : Output → List ℕ → W → Type 0
  -- no file can be created at this path
  pub bars : Output → List ℕ → Type 0
  -- what a writer has taken, if it is known
  pub contents : W → Option (List ℕ)
  -- these are the files once a file was begun that is not kept yet
  pub begins : F → Type 0
  -- these are the files once all that this writer has taken is kept at this path
  pub puts : Output → List ℕ → Counted W → F → Type 0
  -- these are the files once so many calls of what they gave have failed, and nothing was kept
  pub counts : ℕ → F → Type 0

-- P holds of the bytes of some file that can be read at the path
abbrev pub SomeFile : {F W : Type 0} → Disk F W → Input → List ℕ → (Option (List ℕ) → Type 0) → Type 0
SomeFile disk input path P = (known : Option (List ℕ)) × disk.holds input path known × P known

-- why this file could not be opened: there is none, as `lacks` says, or memory ran out
abbrev pub IsOfOpening : Input → Type 0 → CommandRefusal → Type 0
IsOfOpening input lacks (CannotOpen named) = (named ≡ input) × lacks
IsOfOpening input lacks OutOfMemory = Unit {0}
IsOfOpening input lacks _ = ⊥

-- why nothing was read from the file at a path: it could not be opened, or P gives the reason, by the bytes of some
-- file that can be read there
abbrev pub RefusesFile : {F W : Type 0} → Disk F W → Input → List ℕ → (CommandRefusal → Option (List ℕ) → Type 0) → CommandRefusal → Type 0
RefusesFile disk input path P refusal = IsOfOpening input (disk.lacks input path) refusal ⊎ SomeFile disk input path (P refusal)

-- whether a refusal names a failed call of a file: one that opens it, creates it, reads it or writes it
abbrev pub names_failure : CommandRefusal → Bool
names_failure (CannotOpen input) = true
names_failure (CannotCreate output) = true
names_failure (ReadFailed input) = true
names_failure (CannotWrite output) = true
names_failure (Layout layouts.Device) = true
names_failure (Dump dumps.Device) = true
names_failure _ = false

-- what a refusal left of the files: they have counted the failed call that it names; if it names none, they are as they
-- were
abbrev pub LeavesCounted : {F W : Type 0} → Disk F W → F → F → CommandRefusal → Type 0
LeavesCounted disk from to refusal = MatchBool (names_failure refusal) (disk.counts 1 to) (to ≡ from)

-- some writer that the path gives took all these bytes, and no call of it failed; all that it took was kept at the
-- path, and these are the files since
pub record WritesWhole {F W : Type 0} (disk : Disk F W) (output : Output) (path bytes : List ℕ) (to : F) : Type 0 where
  pub made : W
  pub given : disk.makes output path made
  pub written : Counted W
  pub appended : Appends (disk.contents made) (disk.contents (inner_of written)) bytes
  pub none_failed : failures_of written ≡ 0
  pub kept : disk.puts output path written to

-- some writer that the path gives took a beginning of these bytes, and then one call of it failed, which these files
-- have counted
pub record WritesBeginning {F W : Type 0} (disk : Disk F W) (output : Output) (path bytes : List ℕ) (to : F) : Type 0 where
  pub made : W
  pub given : disk.makes output path made
  pub written : W
  pub appended : AppendsSome (disk.contents made) (disk.contents written) bytes
  pub counted : disk.counts 1 to

-- no file was begun, or one was begun and not kept: `from` are the files before, of which `disk` says what is known
abbrev pub IsUnkept : {F W : Type 0} → Disk F W → F → F → Type 0
IsUnkept disk from to = (to ≡ from) ⊎ disk.begins to

-- how a file is refused of which a call of the writer failed
abbrev pub unwritten : Output → CommandRefusal
unwritten outputs.Dump = Dump dumps.Device
unwritten outputs.New = Layout layouts.Device
unwritten outputs.Map = CannotWrite outputs.Map

-- Why a file of these bytes was not made: there is no place for it, or a call of its writer failed, which the files
-- have counted; or memory ran out, and no file was kept.
abbrev pub IsOfMaking : {F W : Type 0} → Disk F W → Output → List ℕ → List ℕ → F → F → CommandRefusal → Type 0
IsOfMaking disk output path bytes from to refusal =
    ((refusal ≡ CannotCreate output) × disk.bars output path × disk.counts 1 to)
    ⊎ (((refusal ≡ unwritten output) × WritesBeginning disk output path bytes to)
    ⊎ ((refusal ≡ OutOfMemory) × IsUnkept disk from to))
