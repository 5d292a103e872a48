-- Two cycles that follow one another are one life.
use Rattle.std.proofs.Common.{◌≡◌, List, ℕ, [], ◌∷◌, subst}
use Rattle.heap_layout.specs.Heap.{Heap, IsClosed}
use Rattle.comp_mutator.specs.Cycles.{heap_after, Cycle, Follow, IsCycleOf, IsOneLife}
use Rattle.comp_mutator.specs.Ends.{cycle_of, IsEndOf}
use Rattle.comp_mutator.specs.Finished.{Finished}
use Rattle.embedding_example.specs.Lives.{IsFollowed, LivesTwice}

-- from the heap of the first plan to the last heap
pub lives : ((heap last : Heap) (cycles : List Cycle) → IsClosed heap → Follow heap cycles last → IsOneLife heap cycles last)
    → (heap next last : Heap) (f g : Finished) (marks last_marks : List ℕ) → IsEndOf heap f → IsFollowed heap f marks next → IsEndOf next g → IsFollowed next g last_marks last → LivesTwice heap marks last_marks last
lives law heap next last f g marks last_marks end followed again done =
    let c = cycle_of heap f marks in
    let same : next ≡ heap_after c = followed.next_is in
    let is : IsCycleOf (heap_after c) (cycle_of (heap_after c) g last_marks) = subst (λ (h : Heap). IsCycleOf h (cycle_of h g last_marks)) same done.cycle in
    let left : last ≡ heap_after (cycle_of (heap_after c) g last_marks) = subst (λ (h : Heap). last ≡ heap_after (cycle_of h g last_marks)) same done.next_is in
    record {
      first = f;
      second = g;
      end = end;
      again = subst (λ (h : Heap). IsEndOf h g) same again;
      life = law heap last (c ∷ cycle_of (heap_after c) g last_marks ∷ []) end.closed (followed.cycle, (is, left));
    }
