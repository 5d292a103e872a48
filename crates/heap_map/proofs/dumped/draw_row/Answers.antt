use Rattle.heap_map.proofs.Standing.{adds_more, on_ok}
use Rattle.heap_map.proofs.dumped.draw_row.Goals as goal

pub returns : goal.returns
returns c = on_ok _ _ _ (λ more. adds_more _ _ _ _ c.in_ok-note_page.ensures more) c.frame_page.ensures
