use Rattle.std.proofs.Common.{[]}
use Rattle.heap_map.proofs.Standing.{adds_then}
use Rattle.heap_map.proofs.dumped.draw_new_object.Goals as goal

pub loop-within-preserved : goal.loop-within-preserved
loop-within-preserved c = adds_then [] [] _ _ _ c.loop-within.invariant c.in_ok-put_word.ensures.grows
