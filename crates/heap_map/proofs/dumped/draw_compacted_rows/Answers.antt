use Rattle.std.proofs.Common.{◌≡◌, ℕ, ◌+◌, None, slice_index_or, arith}
use Rattle.heap_map.specs.Pictures.{page_row}
use Rattle.heap_map.proofs.Rows.{row_at}
use Rattle.heap_map.proofs.Standing.{adds_then, adds_turn}
use Rattle.heap_map.proofs.dumped.draw_compacted_rows.Goals as goal

pub loop-p-preserved : goal.loop-p-preserved
loop-p-preserved c =
    let top = c.args.grid.now.top in
    let pages = c.args.dump.now.pages in
    let p = c.loop-p.p in
    let same : p ≡ 0 + p = omega arith in
    adds_turn p (λ (row : ℕ). page_row top row (slice_index_or pages (0 + row) None)) _ _ _ c.loop-p.invariant
    (adds_then _ _ _ _ _ c.in_ok-next.ensures (row_at top p p (0 + p) pages _ _ same c.in_ok-draw_row.ensures))
