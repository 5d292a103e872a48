-- Why pins are refused, of what was found.
use Rattle.std.specs.Prelude.{◌≡◌, ℕ, List, ◌++◌, All}
use Rattle.heap_layout.specs.declared.edition.Edition.{Edition}
use Rattle.heap_layout.specs.Heap.{IsValue}
use Rattle.stopped_heap.specs.Growth.{IsFoundIn}
use Rattle.rest_marks.specs.Places.{Found}
use Rattle.rest_marks.specs.Reached.{AreReached}
use Rattle.pinned_heap.specs.Collecting.{AreFewWith, RefusesPinned}
use Rattle.pinned_heap.specs.declared.fault.CollectPinnedFault.{CollectPinnedFault}

-- The objects at the pins are refused, of what was found: so is a collection of each heap in which it is found, from
-- roots that with the pins reach just that.
abbrev pub IsPinRefused : Found → List ℕ → ℕ → CollectPinnedFault → Type 0
IsPinRefused found pins most fault =
    (edition : Edition) (words roots : List ℕ) → IsFoundIn found words → found.edition ≡ edition → AreReached edition words (roots ++ pins) found.marks
    → All (IsValue edition found.marks) roots → AreFewWith edition words roots pins → RefusesPinned edition words roots pins most fault
