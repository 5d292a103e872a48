-- What is found of the next heap before it is made: its words, the marks of what its roots reach, and its roots.
use Rattle.std.specs.Prelude.{ℕ, ◌*◌, All, List, length}
use Rattle.heap_layout.specs.Heap.{Heap}
use Rattle.comp_history.specs.Objects.{LeadsToObject}
use Rattle.comp_cycles.specs.Ends.{cycle_with, setup_in, AreLowered, AreMoved}
use Rattle.comp_cycles.specs.Finishes.{journals_of, pages_of}
use Rattle.comp_cycles.specs.declared.finished.Finished.{Finished}
use Rattle.reachable_cycles.specs.NextRoots.{Fits}
use Rattle.reachable_cycles.specs.StableReach.{AreMarkedReachable}
use Rattle.reachable_cycles.specs.declared.marking.Marked.{Marked}

-- These are the words, the marks and the roots of the next heap, if its roots are those of the list.
pub record IsFound (heap : Heap) (f : Finished) (roots : List ℕ) (marked : Marked) : Type 0 where
  pub moved : AreMoved (setup_in heap f) (journals_of f) (64 * length (pages_of f)) marked.moved.words.items marked.moved.starts.items
  pub lowered : AreLowered f roots marked.roots.items
  pub fits : Fits (setup_in heap f) roots
  pub lead : All (LeadsToObject (setup_in heap f) (journals_of f)) roots
  pub reachable : AreMarkedReachable (cycle_with heap f roots marked.marks.items)
