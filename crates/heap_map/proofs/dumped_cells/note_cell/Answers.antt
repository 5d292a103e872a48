use Rattle.std.proofs.Common.{[]}
use Rattle.heap_map.proofs.Standing.{adds_then, on_ok}
use Rattle.heap_map.proofs.dumped_cells.note_cell.Goals as goal

pub returns : goal.returns
returns c = on_ok _ _ _ (λ more. adds_then [] [] _ _ _ c.in_ok-frame_cell.ensures more) c.dot_cell.ensures
