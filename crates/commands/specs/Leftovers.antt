-- What is left of a sweep, in the terms of the functions that sweep.
use Rattle.std.specs.Prelude.{◌≡◌, ℕ, map}
use Rattle.heap_layout.specs.Heap.{live, Heap}
use Rattle.page_plan.specs.Sliding.{forwarded_value, live_words}
use Rattle.comp_mutator.specs.Finishes.{edition_in, builds_in, live_of, pages_of, roots_of}
use Rattle.comp_mutator.specs.Finished.{Finished}
use Rattle.comp_dump.specs.Lent.{record_of}
use Rattle.commands.specs.HeapTasks.{slid_records, AreBuilds}

-- n workers swept the heap, and it was finished: each page is there as it slid, and nobody wrote
pub record IsSweptHeap (workers : ℕ) (f : Finished) (heap : Heap) : Type 0 where
  pub edition : edition_in f ≡ heap.edition
  pub pages : map record_of (pages_of f) ≡ slid_records (live heap)
  pub roots : roots_of f ≡ map (forwarded_value heap.edition (live heap)) heap.roots
  pub total : live_of f ≡ live_words (live heap)
  pub builds : AreBuilds workers heap (builds_in f)
