-- The example that docs/MODEL.md draws: a heap of three objects, two of them marked, and four entries of two mutators
-- on one compacted and one fresh page.
use Rattle.std.specs.Prelude.{ℕ, zero, suc, List, [], ◌∷◌, map, take}
use Rattle.heap_layout.specs.Header.{header_word}
use Rattle.heap_layout.specs.Heap.{Heap, from_address}
use Rattle.heap_layout.specs.declared.kind.Kind.{Kind}
use Rattle.heap_layout.specs.declared.kind.Kind.TheVariants.{Header, Reference, Data}
use Rattle.heap_layout.specs.declared.edition.Edition.TheVariants.{One}
use Rattle.page_plan.specs.Sliding.{to_address}
use Rattle.comp_journal.specs.declared.entry.Entry.{Entry}
use Rattle.cell_steps.specs.Setup.{Setup}
use Rattle.cell_steps.specs.Locks.{Journals}
use Rattle.page_cells.specs.Objects.{word_at}
use Rattle.comp_history.specs.OneThread.{OneThreadHeap, first_heap, result_of}

-- | h(0,1,1) 11 | h(1,1,2) 0 22 | h(1,0,3) F |; the first and the third object are marked
abbrev pub three_objects : Heap
three_objects = record {
  edition = One;
  words = header_word 0 1 1 ∷ 11 ∷ header_word 1 1 2 ∷ 0 ∷ 22 ∷ header_word 1 0 3 ∷ from_address 0 ∷ [];
  marks = 0 ∷ 5 ∷ [];
  roots = from_address 5 ∷ [];
}

-- the setup: one compacted page, one fresh page, two mutators
abbrev pub drawn : Setup
drawn = record { heap = three_objects; compacted = 1; fresh = 1; mutators = 2 }

-- the address of to-space word i
abbrev pub t : ℕ → ℕ
t i = to_address i

-- an entry with these fields
abbrev pub entry : ℕ → ℕ → Kind → ℕ → ℕ → Entry
entry stamp writer kind offset value = record { stamp = stamp; writer = writer; kind = kind; offset = offset; value = value }

-- the four entries, in the order of their stamps
abbrev pub makes : Entry
makes = entry 0 0 Header 0 (header_word 1 0 7)

abbrev pub links : Entry
links = entry 1 0 Reference 3 (t 64)

abbrev pub changes : Entry
changes = entry 2 1 Data 1 33

abbrev pub links_back : Entry
links_back = entry 3 0 Reference 1 (t 0)

-- the journals of page 0 and of page 1
abbrev pub drawn_journals : Journals
drawn_journals zero = links ∷ changes ∷ []
drawn_journals (suc zero) = makes ∷ links_back ∷ []
drawn_journals (suc (suc p)) = []

-- the four entries, each with its page, in the order of their stamps
abbrev pub drawn_history : List (ℕ × Entry)
drawn_history = (1, makes) ∷ (0, links) ∷ (0, changes) ∷ (1, links_back) ∷ []

-- the same entries, but with the reference before the object to which it leads
abbrev pub linked_too_early : List (ℕ × Entry)
linked_too_early = (0, links) ∷ (1, makes) ∷ (0, changes) ∷ (1, links_back) ∷ []

-- the heap of one thread after the first n entries
abbrev pub heap_after : ℕ → OneThreadHeap
heap_after n = result_of (first_heap drawn) (take n drawn_history)

-- its words at T, T+1, T+2, T+3, T+64 and T+65
abbrev pub drawn_words : OneThreadHeap → List ℕ
drawn_words heap = map heap.word (t 0 ∷ t 1 ∷ t 2 ∷ t 3 ∷ t 64 ∷ t 65 ∷ [])

-- the words that the two journals make of the two pages, at the same addresses
abbrev pub words_of_pages : List ℕ
words_of_pages = map (word_at drawn drawn_journals) (t 0 ∷ t 1 ∷ t 2 ∷ t 3 ∷ t 64 ∷ t 65 ∷ [])
