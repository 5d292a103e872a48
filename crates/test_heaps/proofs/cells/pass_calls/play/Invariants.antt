use Rattle.cell_steps.specs.Passes.{Rests}
use Rattle.page_cells.specs.CellViews.{IsPassOf}
use Rattle.test_heaps.proofs.cells.pass_calls.play.Given as goal

abbrev pub invariant-loop-row : goal.invariant-loop-row
invariant-loop-row g l = IsPassOf l.cells l.pass × Rests l.pass
