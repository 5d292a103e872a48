-- What is known at the end about mutators that swept.
use Rattle.std.proofs.Common.{ℕ, List, map, IsSome, sym, ◌∙◌}
use Rattle.std.proofs.lemmas.List.{length-map}
use Rattle.std.proofs.lemmas.Slice.Zip.{AllZip-long}
use Rattle.page_plan.specs.declared.builder.Builder.{Ghosts}
use Rattle.page_cells.specs.Setup.{Setup}
use Rattle.page_cells.specs.Closing.{page_at}
use Rattle.page_cells.specs.CellViews.{steps_of, AreNew}
use Rattle.page_cells.proofs.Rows.{at_map}
use Rattle.comp_mutator.specs.Finishes.{pages_of, IsFinished}
use Rattle.comp_mutator.specs.Mutators.{cells_of, pass_of}
use Rattle.comp_mutator.specs.Orders.{IsInOrder}
use Rattle.comp_mutator.specs.Finished.{Finished}
use Rattle.comp_mutator.specs.declared.mutator.Mutator.{Mutator}
use Rattle.comp_mutator.specs.declared.space.Space.{Space}
use Rattle.comp_sweep.specs.Sweeps.{HandsBack, SomeSeesBuilt, Sweeps}
use Rattle.comp_sweep.proofs.SweepAnswers.{beside}

module _ {L B : Type 0} {g : Ghosts B} (space : Space L B g) (n : ℕ) (given back : List (Mutator L)) (new : AreNew (steps_of (cells_of space)) n (map pass_of given)) (h : HandsBack space given back) where
  -- they are in the order of their numbers
  pub still_row : IsInOrder n back back
  still_row = record {
    count = AllZip-long (Sweeps space) given back h ∙ (sym (length-map given pass_of) ∙ new.count);
    numbers = λ k m at. let x = beside (Sweeps space) given back k m h at in x.2.grows.number ∙ (new.new k (pass_of x.0) (at_map pass_of given k x.0 x.1)).number;
    given = λ k m at. (k, at);
  }

-- a page that one of them has seen built exists
pub there : {L : Type 0} (u : Setup) (back : List (Mutator L)) (f : Finished) (p : ℕ) → SomeSeesBuilt back p → IsFinished u (map pass_of back) f → IsSome (page_at (pages_of f) p)
there u back f p sees end = end.pages.known sees.1.0 (pass_of sees.0) (at_map pass_of back sees.1.0 sees.0 sees.1.1) p sees.2
