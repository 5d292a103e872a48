use Rattle.std.proofs.Common.{ℕ, List, codes, decimal, ◌++◌, ◌∙◌, ap, refl, string_bytes}
use Rattle.heap_map.specs.Cells.{IsShade}
use Rattle.heap_map.specs.Layout.{cell_text, nth_cell}
use Rattle.heap_map.proofs.Standing.{adds_one}
use Rattle.heap_map.proofs.CellNames.{at_cell, cells_next, cells_none}
use Rattle.heap_map.proofs.pages.draw_from_pages.Goals as goal

pub loop-cell-init : goal.loop-cell-init
loop-cell-init c = cells_none _ _ _

pub loop-cell-preserved : goal.loop-cell-preserved
loop-cell-preserved c =
    let top = c.args.grid.now.top in
    let name : List ℕ = codes "s" ++ decimal c.shade.result in
    let at = at_cell top c.corner_of.result.x c.corner_of.result.y name (nth_cell c.loop-cell.cell) c.corner_of.ensures.x c.corner_of.ensures.y in
    let is = c.in_ok-put_numbered.ensures.bytes ∙ ap (λ (t : List ℕ). string_bytes c.loop-cell.picture ++ t) at in
    cells_next top c.loop-cell.cell (λ _ name. IsShade name) _ _ _ name c.loop-cell.invariant (c.shade.result, c.shade.ensures, refl) (adds_one _ _ (cell_text top name (nth_cell c.loop-cell.cell)) is)
