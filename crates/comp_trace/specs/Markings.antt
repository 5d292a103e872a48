-- How the heap with which the next cycle begins is marked: by marks that are given, or by what its roots reach.
use Rattle.std.specs.Prelude.{◌≡◌, ℕ, List, Option, Some, None}
use Rattle.heap_layout.specs.Heap.{Heap}
use Rattle.heap_layout.specs.declared.fault.LayoutFault.{LayoutFault}
use Rattle.comp_cycles.specs.Cycles.{Cycle, given_after, heap_after, numbers_after, AreApart, IsCycleOf}
use Rattle.comp_cycles.specs.Ends.{cycle_of, setup_in, IsRefusedFor}
use Rattle.comp_cycles.specs.Finishes.{journals_of}
use Rattle.comp_cycles.specs.NextHeap.{next_faults}
use Rattle.comp_cycles.specs.NumberedHeaps.{IsNumberedAs}
use Rattle.comp_cycles.specs.Stable.{StableHeap}
use Rattle.comp_cycles.specs.declared.finished.Finished.{Finished}
use Rattle.reachable_cycles.specs.NextRoots.{IsRefusedNext}
use Rattle.reachable_cycles.specs.StableReach.{AreMarkedReachable, KeepsExactly, written}
use Rattle.comp_trace.specs.declared.cycles.marking.Marking.{Marking}
use Rattle.comp_trace.specs.declared.cycles.marking.Marking.TheVariants.{Given, Reachable}

-- the marks that are given; there are none if the heap is marked by what its roots reach
abbrev pub marks_given : Marking → Option (List ℕ)
marks_given (Given marks) = Some marks.items
marks_given Reachable = None

-- the marks at the end of a cycle are those that were given, or those of the objects that the roots of the next heap
-- reach
abbrev pub IsMarkedBy : Option (List ℕ) → Cycle → Type 0
IsMarkedBy (Some marks) c = c.marks ≡ marks
IsMarkedBy None c = AreMarkedReachable c

-- the cycle over this heap came to its end, and was so marked
pub record IsMarkedCycle (given : Option (List ℕ)) (heap : Heap) (c : Cycle) : Type 0 where
  pub cycle : IsCycleOf heap c
  pub marked : IsMarkedBy given c

-- if the heap is marked by what its roots reach, the cycle keeps exactly the objects that the roots reach when it ends
abbrev pub KeepsReached : Option (List ℕ) → Heap → Cycle → Type 0
KeepsReached (Some marks) heap c = Unit {0}
KeepsReached None heap c = (numbers : List ℕ) (stable : StableHeap) → IsNumberedAs heap numbers stable → AreApart heap.edition (given_after c stable.given)
    → KeepsExactly (written c numbers stable) (numbers_after c numbers stable.given)

-- Why no heap follows what is left of a cycle. With marks that are given it is the first fault of the next heap. Marked
-- by what its roots reach, the next heap can only be too large. Or memory ran out.
abbrev pub IsUnmarkable : Option (List ℕ) → Heap → Finished → LayoutFault → Type 0
IsUnmarkable (Some marks) heap f fault = IsRefusedFor (next_faults (setup_in heap f) (journals_of f) (heap_after (cycle_of heap f marks))) fault
IsUnmarkable None heap f fault = IsRefusedNext (setup_in heap f) fault
