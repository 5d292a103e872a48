-- What several threads asked of the marked objects.
use Rattle.std.specs.Prelude.{◌≡◌, ℕ, ◌+◌, ◌*◌, ◌<◌, ◌≤◌, true, List}
use Rattle.heap_layout.specs.declared.edition.Edition.{Edition}
use Rattle.heap_layout.specs.Bits.{bit}
use Rattle.heap_layout.specs.Header.{size_of}
use Rattle.heap_layout.specs.Heap.{header_at}
use Rattle.rest_marks.specs.Marks.{IsKept}
use Rattle.rest_marks.specs.declared.asking.Asked.{Asked}

-- the object at index i ends before each marked object behind it begins
abbrev pub EndsBefore : Edition → List ℕ → List ℕ → ℕ → Type 0
EndsBefore edition words heads i = (j : ℕ) → i < j → bit heads j ≡ true → i + size_of (header_at edition words i) ≤ j

-- the marked objects from index `from` up to index `end` are as they must be
pub record AreKeptIn (edition : Edition) (words heads : List ℕ) (from end : ℕ) : Type 0 where
  pub kept : (i : ℕ) → from ≤ i → i < end → bit heads i ≡ true → IsKept edition words heads i
  pub apart : (i : ℕ) → from ≤ i → i < end → bit heads i ≡ true → EndsBefore edition words heads i

-- a thread's answer is so
abbrev pub IsAsked : Edition → List ℕ → List ℕ → Asked → Type 0
IsAsked edition words heads part = part.kept ≡ true → AreKeptIn edition words heads (64 * part.first) (64 * part.end)
