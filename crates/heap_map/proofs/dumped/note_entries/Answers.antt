use Rattle.std.proofs.Common.{arith}
use Rattle.heap_map.proofs.Rows.{base_at, entries_added}
use Rattle.heap_map.proofs.Standing.{on_ok}
use Rattle.heap_map.proofs.dumped.note_entries.Goals as goal

pub returns : goal.returns
returns c =
    let line = base_at c.args.grid.now.top c.corner.result.y c.base-y.result c.args.row c.args.grid.now.scale c.requires.scale c.corner.ensures.y (c.base-y.ensures c.corner.ensures.small) in
    on_ok _ _ _ (λ is. entries_added c.args.grid.now.top c.args.row c.base-y.result c.args.entries _ _ line is) c.write.ensures.bytes
