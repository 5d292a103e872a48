-- What follows a cycle, in the terms of the functions that make it.
use Rattle.std.specs.Prelude.{◌≡◌, ℕ, All, IfSome, List, Option, Some, None}
use Rattle.heap_layout.specs.Faults.{IsAccepted}
use Rattle.heap_layout.specs.Heap.{Heap, IsStored}
use Rattle.comp_mutator.specs.Cycles.{Cycle, heap_after}
use Rattle.comp_mutator.specs.Ends.{cycle_of}
use Rattle.comp_mutator.specs.Finished.{Finished}
use Rattle.comp_trace.specs.Markings.{marks_given, IsMarkedCycle, KeepsReached}
use Rattle.comp_trace.specs.RootsText.{IsRootWithin}
use Rattle.command_io.specs.declared.refusal.CommandRefusal.{CommandRefusal}
use Rattle.command_io.specs.declared.refusal.CommandRefusal.TheVariants.{Layout, OutOfMemory}
use Rattle.commands.specs.TraceTasks.{IsChapterOf, IsRefusedBy}
use Rattle.commands.specs.Inputs.{Given}
use Rattle.commands.specs.declared.cycling.Handed.{Handed}
use Rattle.commands.specs.declared.cycling.Handed.TheVariants.{Marked, Roots}

-- what is handed in
abbrev pub given_by : Handed → Given
given_by (Marked marking) = record { marks = marks_given marking; roots = None }
given_by (Roots roots) = record { marks = None; roots = Some roots.items }

-- the mutators whose registers are given as roots are there
abbrev pub IsGivenWithin : ℕ → Given → Type 0
IsGivenWithin mutators given = IfSome given.roots (All (IsRootWithin mutators))

-- the cycle that ends with these marks, and with these roots, if they do not stay
abbrev pub cycle_by : Heap → Finished → Option (List ℕ) → List ℕ → Cycle
cycle_by heap f roots marks = record (cycle_of heap f marks) { new_roots = roots }

-- This heap follows what is left of a cycle: with the marks that are given, or marked by what its roots reach; and with
-- these roots, if they do not stay. Its image can be read.
pub record IsNextHeap (heap : Heap) (f : Finished) (given roots : Option (List ℕ)) (next : Heap) : Type 0 where
  pub ended : IsMarkedCycle given heap (cycle_by heap f roots next.marks)
  pub chapter : IsChapterOf heap (cycle_by heap f roots next.marks)
  pub keeps : KeepsReached given heap (cycle_by heap f roots next.marks)
  pub next_is : next ≡ heap_after (cycle_by heap f roots next.marks)
  pub stored : IsStored next
  pub accepted : IsAccepted next

-- why no heap follows: this is its first fault, or memory ran out
abbrev pub IsUnmarked : Heap → Finished → Option (List ℕ) → Option (List ℕ) → CommandRefusal → Type 0
IsUnmarked heap f given roots (Layout fault) = IsRefusedBy heap f given roots fault
IsUnmarked heap f given roots OutOfMemory = Unit {0}
IsUnmarked heap f given roots _ = ⊥
