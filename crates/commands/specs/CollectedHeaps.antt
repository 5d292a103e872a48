-- What a collection leaves, in the terms of the functions that collect.
use Rattle.std.specs.Prelude.{◌≡◌, ℕ, List, []}
use Rattle.heap_layout.specs.declared.edition.Edition.{Edition}
use Rattle.heap_layout.specs.Faults.{IsAccepted}
use Rattle.heap_layout.specs.Heap.{Heap, IsStored}
use Rattle.rest_marks.specs.Reached.{AreReached, IsSound}
use Rattle.rest_slide.specs.Settled.{collected}
use Rattle.commands.specs.HeapTasks.{remarked, IsMarkedByRoots}

-- The heap has the edition, the words and the roots of these parts, whatever their marks are. Exactly the objects are
-- marked that its roots reach, and it is sound. Nothing is said of its other words.
pub record IsReachedHeap (parts heap : Heap) : Type 0 where
  pub same : heap ≡ remarked parts heap.marks
  pub reached : AreReached heap.edition heap.words heap.roots heap.marks
  pub sound : IsSound heap

-- these are the words and the roots that the collection of the heap leaves
pub record AreLeftBy (heap : Heap) (words roots : List ℕ) : Type 0 where
  pub words_are : words ≡ (collected heap).words
  pub roots_are : roots ≡ (collected heap).roots

-- the heap of this edition, these words and these roots was collected by its roots, which left these words and roots
abbrev pub AreSlid : Edition → List ℕ → List ℕ → List ℕ → List ℕ → Type 0
AreSlid edition words roots new_words new_roots =
    (heap : Heap) × IsReachedHeap (record { edition = edition; words = words; marks = []; roots = roots }) heap × AreLeftBy heap new_words new_roots

-- The heap is what the collection of another one left. It is accepted, and its roots reach all its objects.
pub record IsLeftBy (heap next : Heap) : Type 0 where
  pub same : next ≡ collected heap
  pub marked : IsMarkedByRoots next
  pub accepted : IsAccepted next
  pub stored : IsStored next
