-- What becomes of what a handle keeps.
use Rattle.std.specs.Prelude.{◌≡◌, ℕ, List, Option, Some}
use Rattle.heap_layout.specs.Faults.{IsAccepted}
use Rattle.heap_layout.specs.Heap.{Heap}
use Rattle.heap_layout.specs.declared.fault.LayoutFault.{LayoutFault}
use Rattle.comp_crew.specs.Cycles.{given_after, heap_after, numbers_after, AreApart, Cycle, IsChapter, IsCycleOf}
use Rattle.comp_crew.specs.Ends.{checked_faults, cycle_with, next_sizes, setup_in, IsRefusedFor, IsRefusedWithin}
use Rattle.comp_crew.specs.Finishes.{journals_of, live_of}
use Rattle.comp_crew.specs.Finishing.{finished_of, heap_of, IsEndBy, IsOfItsFlip, IsUnfinishedFor}
use Rattle.comp_crew.specs.NextRoots.{IsRefusedWith}
use Rattle.comp_crew.specs.NumberedHeaps.{IsNumberedAs}
use Rattle.comp_crew.specs.Stable.{StableHeap}
use Rattle.comp_crew.specs.StableReach.{written, AreMarkedReachable, KeepsExactly}
use Rattle.comp_crew.specs.declared.bench.Bench.{Bench}
use Rattle.comp_crew.specs.declared.fault.FinishFault.{FinishFault}
use Rattle.comp_crew.specs.declared.fault.FinishFault.TheVariants as finish
use Rattle.comp_crew.specs.declared.finishing.Ended.{Ended as End}
use Rattle.handle_base.specs.Answers.{bare, done, of_layout}
use Rattle.handle_base.specs.Statuses.{mutator_missing, out_of_memory, still_shared}
use Rattle.handle_base.specs.HandleKinds.{plan_in}
use Rattle.handle_base.specs.declared.answer.Answer.{Answer}
use Rattle.handle_base.specs.declared.kept.Kept.{Kept}
use Rattle.handle_base.specs.declared.kept.Kept.TheVariants as kept

-- a heap becomes its plan
abbrev pub Plans : Heap → Option Kept → Answer → Type 0
Plans heap now a = (plan_in now ≡ Some heap) × (a ≡ done 0)

-- for want of memory alone it does not
abbrev pub IsUnplanned : Heap → Answer → Type 0
IsUnplanned heap a = a ≡ bare out_of_memory 0

-- why a crew is not finished
abbrev pub of_finish : FinishFault → Answer
of_finish finish.OutOfMemory = bare out_of_memory 0
of_finish (finish.MutatorMissing k) = bare mutator_missing k
of_finish finish.StillShared = bare still_shared 0

-- a crew becomes its finished heap
abbrev pub Finishes : Bench → Option Kept → Answer → Type 0
Finishes bench now a = (e : End) × (now ≡ Some (kept.Ended e)) × IsEndBy bench e × IsOfItsFlip bench e × (a ≡ done (live_of (finished_of e)))

-- why it does not
abbrev pub IsUnfinished : Bench → Answer → Type 0
IsUnfinished bench a = (fault : FinishFault) × (a ≡ of_finish fault) × IsUnfinishedFor bench fault

-- the cycle of a finished heap, with the roots and the marks that are handed in at its end
abbrev pub cycle_at : End → List ℕ → List ℕ → Cycle
cycle_at e roots marks = cycle_with (heap_of e) (finished_of e) roots marks

-- The handle keeps the heap with which the next cycle begins, if it has these roots and marks.
pub record IsNext (roots marks : List ℕ) (e : End) (now : Option Kept) : Type 0 where
  pub next : now ≡ Some (kept.Heap (heap_after (cycle_at e roots marks)))
  pub accepted : IsAccepted (heap_after (cycle_at e roots marks))
  pub cycle : IsCycleOf (heap_of e) (cycle_at e roots marks)
  pub chapter : (numbers : List ℕ) (stable : StableHeap) → IsNumberedAs (heap_of e) numbers stable → IsChapter (cycle_at e roots marks) numbers stable

-- a finished heap becomes that heap
abbrev pub Follows : List ℕ → List ℕ → End → Option Kept → Answer → Type 0
Follows roots marks e now a = IsNext roots marks e now × (a ≡ done 0)

-- why it does not; a next heap that is too large is refused whatever memory there is
abbrev pub IsUnfollowed : List ℕ → List ℕ → End → Answer → Type 0
IsUnfollowed roots marks e a =
    (fault : LayoutFault) × (a ≡ of_layout fault) × IsRefusedFor (checked_faults (heap_of e) (finished_of e) roots marks) fault
    × IsRefusedWithin (next_sizes (finished_of e) marks roots) fault

-- The handle keeps the heap with which the next cycle begins, if it has these roots and marks: exactly the objects are
-- marked that the roots reach, so each of them is kept, and each other one is dropped.
pub record IsNextReached (roots marks : List ℕ) (e : End) (now : Option Kept) : Type 0 where
  pub next : now ≡ Some (kept.Heap (heap_after (cycle_with (heap_of e) (finished_of e) roots marks)))
  pub accepted : IsAccepted (heap_after (cycle_with (heap_of e) (finished_of e) roots marks))
  pub reachable : AreMarkedReachable (cycle_with (heap_of e) (finished_of e) roots marks)
  pub cycle : IsCycleOf (heap_of e) (cycle_with (heap_of e) (finished_of e) roots marks)
  pub chapter : (numbers : List ℕ) (stable : StableHeap) → IsNumberedAs (heap_of e) numbers stable → IsChapter (cycle_with (heap_of e) (finished_of e) roots marks) numbers stable
  pub keeps : (numbers : List ℕ) (stable : StableHeap) → IsNumberedAs (heap_of e) numbers stable
      → AreApart (heap_of e).edition (given_after (cycle_with (heap_of e) (finished_of e) roots marks) stable.given)
      → KeepsExactly (written (cycle_with (heap_of e) (finished_of e) roots marks) numbers stable) (numbers_after (cycle_with (heap_of e) (finished_of e) roots marks) numbers stable.given)

-- a finished heap becomes that heap
abbrev pub FollowsReached : List ℕ → End → Option Kept → Answer → Type 0
FollowsReached roots e now a = (marks : List ℕ) × IsNextReached roots marks e now × (a ≡ done 0)

-- why it does not
abbrev pub IsUnreached : List ℕ → End → Answer → Type 0
IsUnreached roots e a = (fault : LayoutFault) × (a ≡ of_layout fault) × IsRefusedWith (setup_in (heap_of e) (finished_of e)) (journals_of (finished_of e)) roots fault
