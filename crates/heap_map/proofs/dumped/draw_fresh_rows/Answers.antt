use Rattle.std.proofs.Common.{ℕ, ◌+◌, None, slice_index_or}
use Rattle.heap_map.specs.Pictures.{page_row}
use Rattle.heap_map.proofs.Standing.{adds_then, adds_turn}
use Rattle.heap_map.proofs.dumped.draw_fresh_rows.Goals as goal

pub loop-row-preserved : goal.loop-row-preserved
loop-row-preserved c =
    adds_turn c.loop-row.row (λ (row : ℕ). page_row c.args.grid.now.top row (slice_index_or c.args.dump.now.pages (c.args.first + row) None)) _ _ _ c.loop-row.invariant
    (adds_then _ _ _ _ _ c.in_ok-draw_fresh.ensures c.in_ok-draw_row.ensures)
