use Rattle.heap_map.proofs.Standing.{adds_more, on_ok}
use Rattle.heap_map.proofs.dumped_cells.draw_cell.Goals as goal

pub returns : goal.returns
returns c = on_ok _ _ _ (λ more. adds_more _ _ _ _ c.in_ok-put_cell.ensures more) c.note_cell.ensures
