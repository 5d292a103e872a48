-- What two runs of `next` over files in memory leave there.
use Rattle.std.specs.Prelude.{◌≡◌, ℕ, List, [], ◌∷◌, Option, Some, None}
use Rattle.heap_layout.specs.Encoding.{encoding}
use Rattle.heap_layout.specs.Heap.{Heap}
use Rattle.comp_mutator.specs.Cycles.{IsOneLife}
use Rattle.comp_trace.specs.declared.steps.shown.Shown.{Shown}
use Rattle.command_line.specs.declared.next.NextMarks.{NextMarks}
use Rattle.command_line.specs.declared.next.NextMarks.TheVariants.{Given, Reachable, ReachableFrom}
use Rattle.command_line.specs.declared.next.NextRun.{NextRun}
use Rattle.command_io.specs.Memory.{bytes_at, HasPut}
use Rattle.command_io.specs.declared.memory.MemoryFiles.{MemoryFiles}
use Rattle.commands.specs.Successors.{IsNext}

-- these are the bytes at the path of the marks, and those at the path of the roots; there are none if there is no such
-- path
abbrev pub AreListedAt : MemoryFiles → NextMarks → Option (List ℕ) → Option (List ℕ) → Type 0
AreListedAt from (Given path) marks roots = (bytes : List ℕ) × (bytes_at from path.now ≡ Some bytes) × (marks ≡ Some bytes) × (roots ≡ None)
AreListedAt from Reachable marks roots = (marks ≡ None) × (roots ≡ None)
AreListedAt from (ReachableFrom path) marks roots = (bytes : List ℕ) × (bytes_at from path.now ≡ Some bytes) × (marks ≡ None) × (roots ≡ Some bytes)

-- A run of `next`, by the bytes at the paths that are asked for: the image of the next heap was put at its path, and
-- each other path has what it had.
pub record KeepsNext (from : MemoryFiles) (asked : NextRun) (to : MemoryFiles) : Type 0 where
  pub image : List ℕ
  pub image_at : bytes_at from asked.image.now ≡ Some image
  pub text : List ℕ
  pub text_at : bytes_at from asked.trace.now ≡ Some text
  pub listed : Option (List ℕ)
  pub named : Option (List ℕ)
  pub listed_at : AreListedAt from asked.marks listed named
  pub shown : List Shown
  pub next : Heap
  pub run : IsNext asked.mutators asked.fresh image text listed named shown next
  pub kept : HasPut from asked.new.now (encoding next) to

-- Two runs, one after the other. Their cycles are one life of a heap whose objects never move, from the heap of the
-- first image to the heap of the last.
pub record LivesOn (from : MemoryFiles) (first second : NextRun) (to : MemoryFiles) : Type 0 where
  pub between : MemoryFiles
  pub one : KeepsNext from first between
  pub two : KeepsNext between second to
  pub life : IsOneLife one.run.heap (one.run.cycled.cycle ∷ two.run.cycled.cycle ∷ []) two.next
