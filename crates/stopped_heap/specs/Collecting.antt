-- A whole collection.
use Rattle.std.specs.Prelude.{◌≡◌, ℕ, ◌<◌, List, ◌++◌, drop}
use Rattle.heap_layout.specs.declared.edition.Edition.{Edition}
use Rattle.heap_layout.specs.Heap.{Heap, live}
use Rattle.page_plan.specs.Sliding.{live_words}
use Rattle.rest_marks.specs.Reached.{AreReached, IsFaultOf, IsSound}
use Rattle.rest_slide.specs.Settled.{collected}
use Rattle.rest_marks.specs.declared.fault.CollectFault.{CollectFault}
use Rattle.rest_marks.specs.declared.fault.CollectFault.TheVariants.{Survey, NoRoom}

-- The heap was collected into a memory that held `before`, and now holds `after`: its `count` live words are there
-- first, and the others are as they were. `roots` are its roots then.
pub record IsCollected (heap : Heap) (count : ℕ) (roots before after : List ℕ) : Type 0 where
  pub sound : IsSound heap
  pub live : count ≡ live_words (live heap)
  pub words : after ≡ (collected heap).words ++ drop count before
  pub roots_are : roots ≡ (collected heap).roots

-- The heap of these words and roots, whose marked objects are exactly those that the roots reach, was collected. There
-- is one such list of marks.
abbrev pub HasCollected : Edition → List ℕ → List ℕ → ℕ → List ℕ → List ℕ → List ℕ → Type 0
HasCollected edition words roots count new_roots before after =
    (marks : List ℕ) × AreReached edition words roots marks
    × IsCollected (record { edition = edition; words = words; marks = marks; roots = roots }) count new_roots before after

-- the heap is not collected into a memory of so many words: it is refused, or its live words are too many
abbrev pub RefusesCollection : Edition → List ℕ → List ℕ → ℕ → CollectFault → Type 0
RefusesCollection edition words roots room (Survey fault) = IsFaultOf edition words roots fault
RefusesCollection edition words roots room (NoRoom count) =
    (marks : List ℕ) × AreReached edition words roots marks × IsSound (record { edition = edition; words = words; marks = marks; roots = roots })
    × (count ≡ live_words (live (record { edition = edition; words = words; marks = marks; roots = roots }))) × (room < count)
