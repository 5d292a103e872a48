use Rattle.std.proofs.Common.{◌+◌, None, slice_index_or, string_bytes}
use Rattle.heap_map.specs.Cells.{in_turn, Adds}
use Rattle.heap_map.specs.Pictures.{page_row}
use Rattle.heap_map.proofs.dumped.draw_compacted_rows.Given as goal

-- the pages so far have their rows
abbrev pub invariant-loop-p : goal.invariant-loop-p
invariant-loop-p l =
    Adds (in_turn l.p (λ row. page_row l.grid.top row (slice_index_or l.dump.pages (0 + row) None))) (string_bytes l.fn.picture) (string_bytes l.picture)
