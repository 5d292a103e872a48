use Rattle.std.proofs.Common.{All}
use Rattle.cell_steps.specs.Passes.{Rests}
use Rattle.page_cells.specs.CellViews.{IsPassOf}
use Rattle.test_heaps.proofs.cells.passes_at_once.play_rounds.Given as goal

abbrev pub invariant-loop-round : goal.invariant-loop-round
invariant-loop-round g l = All (λ pass. IsPassOf l.cells pass × Rests pass) l.passes
