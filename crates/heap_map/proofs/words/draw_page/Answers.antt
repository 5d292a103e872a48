use Rattle.std.proofs.Common.{[]}
use Rattle.heap_map.proofs.Standing.{adds_then}
use Rattle.heap_map.proofs.words.draw_page.Goals as goal

pub loop-offset-preserved : goal.loop-offset-preserved
loop-offset-preserved c = adds_then [] [] _ _ _ c.loop-offset.invariant c.in_ok-next.ensures
