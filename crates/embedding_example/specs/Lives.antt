-- A heap that lives through two cycles.
use Rattle.std.specs.Prelude.{◌≡◌, ℕ, List, [], ◌∷◌}
use Rattle.heap_layout.specs.Heap.{Heap}
use Rattle.comp_mutator.specs.Cycles.{heap_after, IsChapter, IsCycleOf, IsOneLife}
use Rattle.comp_mutator.specs.Ends.{cycle_of, IsEndOf}
use Rattle.comp_mutator.specs.Finished.{Finished}
use Rattle.comp_mutator.specs.NumberedHeaps.{first_numbers, first_numbered}

-- With these marks, the next heap follows what is left of this heap. The cycle is the first chapter of the life of its
-- objects, numbered from 1 by rising address.
pub record IsFollowed (heap : Heap) (left : Finished) (marks : List ℕ) (next : Heap) : Type 0 where
  pub next_is : next ≡ heap_after (cycle_of heap left marks)
  pub cycle : IsCycleOf heap (cycle_of heap left marks)
  pub chapter : IsChapter (cycle_of heap left marks) (first_numbers heap) (first_numbered heap)

-- The heap was compacted; with the marks, the next heap was made of what was left, and compacted; and with the last
-- marks, the last heap was made of what was then left. The two cycles are one life of a heap whose objects never move.
pub record LivesTwice (heap : Heap) (marks last_marks : List ℕ) (last : Heap) : Type 0 where
  pub first : Finished
  pub second : Finished
  pub end : IsEndOf heap first
  pub again : IsEndOf (heap_after (cycle_of heap first marks)) second
  pub life : IsOneLife heap (cycle_of heap first marks ∷ cycle_of (heap_after (cycle_of heap first marks)) second last_marks ∷ []) last
