-- What a survey of a stopped heap says, and what its tables are.
use Rattle.std.specs.Prelude.{◌≡◌, ℕ, ◌*◌, List, [], length, filter}
use Rattle.std.specs.List.{range_with_len}
use Rattle.heap_layout.specs.declared.edition.Edition.{Edition}
use Rattle.heap_layout.specs.Bits.{bit}
use Rattle.heap_layout.specs.Heap.{Heap, live}
use Rattle.rest_marks.specs.Reached.{IsSound}
use Rattle.mark_tables.specs.MarkBitmap.{set_bits, AreOffsets}
use Rattle.mark_tables.specs.LiveWords.{live_indices}

-- the indices of the bits that are set, rising
abbrev pub marks_of : List ℕ → List ℕ
marks_of bits = filter (bit bits) (range_with_len 0 (64 * length bits))

-- what a survey found: the marked objects of these words, and for a survey of how many words its tables have room
pub record Surveyed : Type 0 where
  pub edition : Edition
  pub words : List ℕ
  pub marks : List ℕ
  pub room : ℕ

-- its heap with these roots
abbrev pub with_roots : Surveyed → List ℕ → Heap
with_roots survey roots = record { edition = survey.edition; words = survey.words; marks = survey.marks; roots = roots }

-- and with none
abbrev pub heap_of : Surveyed → Heap
heap_of survey = with_roots survey []

-- the heap of these words whose marked objects are those at the set bits of `heads`, with no roots
abbrev pub told : Edition → List ℕ → List ℕ → Heap
told edition words heads = record { edition = edition; words = words; marks = marks_of heads; roots = [] }

-- what is surveyed of these words with the marked objects at the set bits of `heads`
abbrev pub surveyed : Edition → List ℕ → List ℕ → ℕ → Surveyed
surveyed edition words heads room = record { edition = edition; words = words; marks = marks_of heads; room = room }

-- The tables of a heap with these words: `heads` has the bits of the first words of live objects, `bits` those of all
-- live words, and `counts` are the offsets of the blocks of `bits`.
pub record AreTables (edition : Edition) (words heads bits counts : List ℕ) : Type 0 where
  pub sound : IsSound (told edition words heads)
  pub indices : set_bits bits ≡ live_indices (live (told edition words heads))
  pub offsets : AreOffsets bits counts
  pub same : length heads ≡ length bits
