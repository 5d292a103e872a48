-- Two cycles that follow one another are one life.
use Rattle.std.proofs.Common.{List, ℕ, [], ◌∷◌, subst}
use Rattle.heap_layout.specs.Heap.{Heap, IsClosed}
use Rattle.comp_crew.specs.Cycles.{Cycle, IsCycleOf, IsOneLife}
use Rattle.comp_crew.specs.Ends.{cycle_with}
use Rattle.comp_cycles.specs.Cycles.{Follow}
use Rattle.proved_crews.specs.Crews.{IsFollowed, LivesTwice}

pub lives : ((heap last : Heap) (cycles : List Cycle) → IsClosed heap → Follow heap cycles last → IsOneLife heap cycles last)
    → (heap between last : Heap) (roots last_roots : List ℕ) → IsClosed heap → IsFollowed heap roots between → IsFollowed between last_roots last → LivesTwice heap roots last_roots last
lives law heap between last roots last_roots closed first second =
    let c = cycle_with heap first.left roots first.marks in
    let d = cycle_with between second.left last_roots second.marks in
    record {
      between = between;
      first = first;
      second = second;
      life = law heap last (c ∷ d ∷ []) closed (first.cycle, (subst (λ (h : Heap). IsCycleOf h d) first.next_is second.cycle, second.next_is));
    }
