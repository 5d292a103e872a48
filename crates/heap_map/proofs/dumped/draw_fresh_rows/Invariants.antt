use Rattle.std.proofs.Common.{◌+◌, None, slice_index_or, string_bytes}
use Rattle.heap_map.specs.Cells.{in_turn, Adds}
use Rattle.heap_map.specs.Pictures.{page_row}
use Rattle.heap_map.proofs.dumped.draw_fresh_rows.Given as goal

-- the pages so far have their rows
abbrev pub invariant-loop-row : goal.invariant-loop-row
invariant-loop-row l =
    Adds (in_turn l.row (λ row. page_row l.grid.top row (slice_index_or l.dump.pages (l.first + row) None))) (string_bytes l.fn.picture) (string_bytes l.picture)
