-- What is known of files in memory; and files of which nothing is known.
use Rattle.std.specs.Prelude.{◌≡◌, ◌≢◌, ℕ, List, [], ◌∷◌, Option, None, Some, Vec, if◌then◌else◌}
use Rattle.std.specs.Global.{Global}
use Rattle.std.proofs.Common.{subst}
use Rattle.std.specs.Str.{bytes_eq}
use Rattle.std.specs.String.{string_bytes}
use Rattle.heap_layout.specs.Counted.{inner_of}
use Rattle.heap_layout.specs.declared.counted.Counted.{Counted}
use Rattle.command_io.specs.Disk.{Disk, WritesWhole}
use Rattle.command_io.specs.declared.refusal.Output.{Output}
use Rattle.command_io.specs.declared.memory.MemoryFile.{MemoryFile}
use Rattle.command_io.specs.declared.memory.MemoryFiles.{MemoryFiles}

-- files of which nothing is known: anything may be read at a path, any writer may be given, any path may give none, and
-- a file that is begun or kept may change anything
abbrev pub unknown : {F W : Type 0} → Disk F W
unknown = record {
  holds = λ _ _ _. Unit {0};
  lacks = λ _ _. Unit {0};
  makes = λ _ _ _. Unit {0};
  bars = λ _ _. Unit {0};
  contents = λ _. None;
  begins = λ _. Unit {0};
  puts = λ _ _ _ _. Unit {0};
  counts = λ _ _. Unit {0};
}

-- the bytes of the first of these files that is at the path
abbrev pub bytes_in : List MemoryFile → List ℕ → Option (List ℕ)
bytes_in [] path = None
bytes_in (file ∷ files) path = if bytes_eq (string_bytes file.path) path then Some file.bytes.items else bytes_in files path

-- the bytes of the file at a path
abbrev pub bytes_at : MemoryFiles → List ℕ → Option (List ℕ)
bytes_at memory path = bytes_in memory.files path

-- a file of these bytes was put at the path, and each other path has what it had
pub record HasPut (from : MemoryFiles) (path bytes : List ℕ) (to : MemoryFiles) : Type 0 where
  pub here : bytes_at to path ≡ Some bytes
  pub elsewhere : (other : List ℕ) → other ≢ path → bytes_at to other ≡ bytes_at from other

-- A file of any kind at a path has its bytes. Each path gives a writer that is empty, and no path gives none. No call
-- fails, so none is counted.
abbrev pub memory_disk : MemoryFiles → Disk MemoryFiles (Vec ℕ Global)
memory_disk memory = record {
  holds = λ input path known. (bytes : List ℕ) × (bytes_at memory path ≡ Some bytes) × (known ≡ Some bytes);
  lacks = λ input path. bytes_at memory path ≡ None;
  makes = λ output path writer. writer.items ≡ [];
  bars = λ output path. ⊥;
  contents = λ writer. Some writer.items;
  begins = λ to. to ≡ memory;
  puts = λ output path writer to. HasPut memory path (inner_of writer).items to;
  counts = λ n to. to ≡ memory;
}

-- what was written whole to a path is at it, and each other path has what it had
abbrev pub WrittenIsThere : Type 0
WrittenIsThere = (from to : MemoryFiles) (output : Output) (path bytes : List ℕ) → WritesWhole (memory_disk from) output path bytes to → HasPut from path bytes to

-- what is kept once a file was begun is kept in the files as they were: beginning one changes nothing
pub put_after : (from between to : MemoryFiles) (output : Output) (path : List ℕ) (writer : Counted (Vec ℕ Global))
    → (memory_disk from).begins between → (memory_disk between).puts output path writer to → (memory_disk from).puts output path writer to
put_after from between to output path writer same kept = subst (λ (memory : MemoryFiles). HasPut memory path (inner_of writer).items to) same kept

-- and what is counted once a file was begun is counted in the files as they were
pub counted_after : (from between to : MemoryFiles) (n : ℕ) → (memory_disk from).begins between → (memory_disk between).counts n to → (memory_disk from).counts n to
counted_after from between to n same counted = subst (λ (memory : MemoryFiles). to ≡ memory) same counted
