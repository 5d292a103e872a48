-- A finished heap is the end of the heap that was flipped.
use Rattle.std.proofs.Common.{◌≡◌, ℕ, ◌-◌, ◌≤◌, List, length, sym, ap, subst, ◌∙◌, arith}
use Rattle.std.proofs.lemmas.List.{length-map}
use Rattle.heap_layout.specs.Limits.{most_fresh_pages}
use Rattle.heap_layout.specs.Heap.{live, Heap, IsClosed}
use Rattle.page_plan.specs.Sliding as sliding
use Rattle.comp_history.specs.Passes.{builds_of}
use Rattle.comp_history.specs.Pass.{Pass}
use Rattle.comp_history.specs.Setup.{Setup}
use Rattle.comp_cycles.specs.Ends.{setup_in, IsEndOf}
use Rattle.comp_cycles.specs.Finishes.{builds_in, pages_of, IsFinished}
use Rattle.comp_cycles.specs.declared.finished.Finished.{Finished}

abbrev setup_with : Heap → ℕ → ℕ → ℕ → Setup
setup_with heap compacted fresh mutators = record { heap = heap; compacted = compacted; fresh = fresh; mutators = mutators }

module _ (u : Setup) (row : List Pass) (f : Finished) (finished : IsFinished u row f) (crew : length row ≡ u.mutators) (slid : u.compacted ≡ sliding.pages (live u.heap)) where
  pub same_setup : setup_in u.heap f ≡ u
  same_setup =
      let slots = finished.pages.count in
      let fresh_is : length (pages_of f) - sliding.pages (live u.heap) ≡ u.fresh = omega (arith, slots, slid) in
      let many : length (builds_in f) ≡ u.mutators = ap length finished.pages.builds ∙ length-map row builds_of ∙ crew in
      ap (λ (n : ℕ). setup_with u.heap (sliding.pages (live u.heap)) n (length (builds_in f))) fresh_is
      ∙ ap (setup_with u.heap (sliding.pages (live u.heap)) u.fresh) many
      ∙ ap (λ (n : ℕ). setup_with u.heap n u.fresh u.mutators) (sym slid)

  pub is_end : u.fresh ≤ most_fresh_pages u.heap.edition → IsClosed u.heap → IsEndOf u.heap f
  is_end few closed =
      let slots = finished.pages.count in
      record { row = row; finished = subst (λ (v : Setup). IsFinished v row f) (sym same_setup) finished; closed = closed; few_fresh = omega (arith, slots, slid, few) }
