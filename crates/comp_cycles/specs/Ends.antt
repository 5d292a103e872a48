-- What is known of a heap at the end of a cycle, given the heap that was compacted.
use Rattle.std.specs.Prelude.{◌≡◌, ℕ, ◌+◌, ◌-◌, ◌*◌, ◌<◌, ◌≤◌, false, List, [], length, map, slice_index, Some, None}
use Rattle.heap_layout.specs.Limits.{most_fresh_pages}
use Rattle.heap_layout.specs.Bits.{bit}
use Rattle.heap_layout.specs.Heap.{Heap, live, IsClosed}
use Rattle.heap_layout.specs.Faults.{size_faults, IsFirst}
use Rattle.heap_layout.specs.declared.fault.LayoutFault.{LayoutFault}
use Rattle.heap_layout.specs.declared.fault.LayoutFault.TheVariants.{OutOfMemory}
use Rattle.page_plan.specs.Sliding as sliding
use Rattle.comp_journal.specs.Journal.{replayed}
use Rattle.comp_history.specs.Setup.{Setup, base_of}
use Rattle.comp_history.specs.Locks.{Journals}
use Rattle.comp_history.specs.Pass.{Pass}
use Rattle.comp_cycles.specs.Finishes.{edition_in, pages_of, roots_of, builds_in, journals_of, IsFinished}
use Rattle.comp_cycles.specs.declared.finished.Finished.{Finished}
use Rattle.comp_cycles.specs.NextHeap.{next_word, kind_in, is_header, held, lowered, next_heap, next_faults}
use Rattle.comp_cycles.specs.Cycles.{Cycle}

-- the setup of the cycle: the heap that was compacted, and as many fresh pages as there are after the compacted ones
abbrev pub setup_in : Heap → Finished → Setup
setup_in heap f = record {
  heap = heap;
  compacted = sliding.pages (live heap);
  fresh = length (pages_of f) - sliding.pages (live heap);
  mutators = length (builds_in f);
}

-- The finished heap is the end of a cycle that compacted this heap.
pub record IsEndOf (heap : Heap) (f : Finished) : Type 0 where
  pub row : List Pass
  pub finished : IsFinished (setup_in heap f) row f
  pub closed : IsClosed heap
  pub few_fresh : length (pages_of f) ≤ sliding.pages (live heap) + most_fresh_pages heap.edition

-- the cycle, with the marks that are handed in at the end; the roots stay
abbrev pub cycle_of : Heap → Finished → List ℕ → Cycle
cycle_of heap f marks = record { setup = setup_in heap f; journals = journals_of f; roots = roots_of f; new_roots = None; marks = marks }

-- the cycle, with the roots and the marks that are handed in at the end
abbrev pub cycle_with : Heap → Finished → List ℕ → List ℕ → Cycle
cycle_with heap f roots marks = record { setup = setup_in heap f; journals = journals_of f; roots = roots_of f; new_roots = Some roots; marks = marks }

-- the words of page p at the end
abbrev pub words_at : Heap → Finished → ℕ → List ℕ
words_at heap f p = replayed (base_of (setup_in heap f) p) (journals_of f p)

-- The first n words of the next heap, and one bit for each of them: it is set if an object starts at the word.
pub record AreMoved (u : Setup) (journals : Journals) (n : ℕ) (words bits : List ℕ) : Type 0 where
  pub long : length words ≡ n
  pub moved : (i : ℕ) → i < n → slice_index words i ≡ next_word u journals i
  pub starts : (i : ℕ) → i < n → bit bits i ≡ is_header (kind_in u journals i)
  pub rest : (i : ℕ) → n ≤ i → bit bits i ≡ false

-- the faults of the numbers of words, marks and roots of the next heap
abbrev pub next_sizes : Finished → List ℕ → List ℕ → List LayoutFault
next_sizes f marks roots = size_faults (edition_in f) (64 * length (pages_of f)) (length marks) (length roots)

-- the next heap as a call checks it to which these roots and marks are handed in
abbrev pub checked_heap : Heap → Finished → List ℕ → List ℕ → Heap
checked_heap heap f roots marks = next_heap (setup_in heap f) (journals_of f) (map held roots) marks

-- the faults for which that call is refused
abbrev pub checked_faults : Heap → Finished → List ℕ → List ℕ → List LayoutFault
checked_faults heap f roots marks = next_faults (setup_in heap f) (journals_of f) (checked_heap heap f roots marks)

-- these are the roots of that heap, lowered
abbrev pub AreLowered : Finished → List ℕ → List ℕ → Type 0
AreLowered f roots lower = lower ≡ map (lowered (edition_in f)) (map held roots)

-- memory is refused only after this list was found to be empty
abbrev pub IsRefusedWithin : List LayoutFault → LayoutFault → Type 0
IsRefusedWithin list OutOfMemory = list ≡ []
IsRefusedWithin list _ = Unit {0}

-- why `next_cycle` is refused: the first fault of the next heap, or out of memory
abbrev pub IsRefusedFor : List LayoutFault → LayoutFault → Type 0
IsRefusedFor list OutOfMemory = Unit {0}
IsRefusedFor list fault = IsFirst list fault
