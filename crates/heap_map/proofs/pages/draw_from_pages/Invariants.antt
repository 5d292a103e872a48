use Rattle.std.proofs.Common.{string_bytes}
use Rattle.heap_map.specs.Cells.{AddsCells, IsShade}
use Rattle.heap_map.proofs.pages.draw_from_pages.Given as goal

-- the cells so far are drawn
abbrev pub invariant-loop-cell : goal.invariant-loop-cell
invariant-loop-cell l = AddsCells l.grid.top l.cell (λ _ name. IsShade name) (string_bytes l.fn.picture) (string_bytes l.picture)
