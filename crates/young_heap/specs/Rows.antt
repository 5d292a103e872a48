-- A row of objects, from a word on.
use Rattle.std.specs.Prelude.{◌≡◌, ℕ, ◌+◌, ◌<◌, List}
use Rattle.heap_layout.specs.declared.edition.Edition.{Edition}
use Rattle.heap_layout.specs.Header.{size_of}
use Rattle.heap_layout.specs.Heap.{header_at, IsPlaced}

-- An object of the row that begins at index i, and ends at or behind word `end`, starts at index j.
pub data IsInRow (edition : Edition) (words : List ℕ) (end : ℕ) : ℕ → ℕ → Type 0 where
  here : (i : ℕ) → i < end → IsInRow edition words end i i
  behind : (i j : ℕ) → i < end → IsInRow edition words end (i + size_of (header_at edition words i)) j
      → IsInRow edition words end i j

-- The words from an index on are a row of objects, each of them placed, that ends at word `end`.
pub data IsRowTo (edition : Edition) (words : List ℕ) (end : ℕ) : ℕ → Type 0 where
  done : (i : ℕ) → i ≡ end → IsRowTo edition words end i
  goes : (i : ℕ) → IsPlaced edition words i → IsRowTo edition words end (i + size_of (header_at edition words i))
      → IsRowTo edition words end i
