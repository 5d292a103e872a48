use Rattle.std.proofs.Common.{ℕ, List}
use Rattle.heap_map.specs.Layout.{nth_cell}
use Rattle.heap_map.specs.Pictures.{cell_name, IsDumpCell}
use Rattle.heap_map.proofs.CellNames.{cells_next, cells_none}
use Rattle.heap_map.proofs.DumpCells.{cell_drawn, is_dump_cell}
use Rattle.heap_map.proofs.dumped_cells.draw_compacted_cells.Goals as goal

pub loop-cell-init : goal.loop-cell-init
loop-cell-init c = cells_none _ _ _

pub loop-cell-preserved : goal.loop-cell-preserved
loop-cell-preserved c =
    let top = c.args.grid.now.top in
    let cell = c.loop-cell.cell in
    let name = cell_name c.is_built-built.result c.shade-shade.result in
    let drawn = cell_drawn top c.corner_of.result.x c.corner_of.result.y cell name _ _ c.corner_of.ensures.x c.corner_of.ensures.y c.in_ok-draw_cell.ensures in
    let here = is_dump_cell c.args.k c.args.dump.now 0 c.args.grid.now.pages cell c.is_built-built.result c.shade-shade.result c.is_built-built.ensures.none c.is_built-built.ensures.some c.shade-shade.ensures in
    cells_next top cell (IsDumpCell c.args.k c.args.dump.now 0 c.args.grid.now.pages) _ _ _ name c.loop-cell.invariant here drawn
