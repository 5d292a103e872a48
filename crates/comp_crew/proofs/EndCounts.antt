-- The counts of the flip whose end a finished heap is.
use Rattle.std.proofs.Common.{◌≡◌, ℕ, ◌-◌, ◌≤◌, length, refl, ap, sym, subst, ◌∙◌, arith}
use Rattle.std.proofs.lemmas.List.{length-map}
use Rattle.heap_layout.specs.Heap.{Heap, live}
use Rattle.heap_layout.specs.Limits.{most_fresh_pages}
use Rattle.page_plan.specs.Sliding as sliding
use Rattle.cell_steps.specs.Passes.{builds_of}
use Rattle.comp_cycles.specs.Ends.{IsEndOf}
use Rattle.comp_cycles.specs.Finishes.{builds_in, pages_of, IsOfFlip}
use Rattle.comp_cycles.specs.declared.finished.Finished.{Finished}
use Rattle.comp_crew.specs.Finishing.{finished_of, heap_of, setup_at_end, IsEnded}
use Rattle.comp_crew.specs.declared.finishing.Ended.{Ended}

-- there is one list of builds for each mutator of the flip
pub lists_shown : (n fresh : ℕ) (f : Finished) → IsOfFlip n fresh f → length (builds_in f) ≡ n
lists_shown n fresh f of = ap length of.finished.pages.builds ∙ length-map of.row builds_of ∙ of.crew

-- the end of a crew is the end of a flip of the heap of its plan, with the counts that it shows
pub flip_at_end : (e : Ended) → IsEnded e → IsOfFlip (setup_at_end e).mutators (setup_at_end e).fresh (finished_of e)
flip_at_end e h =
    let few = h.end.few_fresh in
    let few_fresh : length (pages_of (finished_of e)) - sliding.pages (live (heap_of e)) ≤ most_fresh_pages (heap_of e).edition = omega (arith, few) in
    record {
      setup = setup_at_end e;
      row = h.end.row;
      finished = h.end.finished;
      heap = h.end.closed;
      crew = sym (ap length h.end.finished.pages.builds ∙ length-map h.end.row builds_of);
      mutators_are = refl;
      some_mutators = h.some_mutators;
      few_mutators = h.few_mutators;
      fresh_are = refl;
      few_fresh = few_fresh;
    }

-- it is the end of the flip of that heap
pub flip_heap : (e : Ended) (h : IsEnded e) → (flip_at_end e h).setup.heap ≡ heap_of e
unfolding flip_at_end
flip_heap e h = refl

-- the end of a cycle, of an equal heap
pub end_moved : (h g : Heap) (f : Finished) → h ≡ g → IsEndOf h f → IsEndOf g f
end_moved h g f e end = subst (λ (x : Heap). IsEndOf x f) e end
