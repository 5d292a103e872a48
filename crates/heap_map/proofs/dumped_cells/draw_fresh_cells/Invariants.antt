use Rattle.std.proofs.Common.{string_bytes}
use Rattle.heap_map.specs.Cells.{AddsCells}
use Rattle.heap_map.specs.Pictures.{IsDumpCell}
use Rattle.heap_map.proofs.dumped_cells.draw_fresh_cells.Given as goal

-- the cells so far are drawn
abbrev pub invariant-loop-cell : goal.invariant-loop-cell
invariant-loop-cell l = AddsCells l.grid.top l.cell (IsDumpCell l.k l.dump l.first l.grid.pages) (string_bytes l.fn.picture) (string_bytes l.picture)
