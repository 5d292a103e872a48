use Rattle.std.proofs.Common.{[]}
use Rattle.heap_map.proofs.Standing.{adds_then}
use Rattle.heap_map.proofs.dumped.draw_new_objects.Goals as goal

pub loop-entry-preserved : goal.loop-entry-preserved
loop-entry-preserved c = record {
  low = c.in_ok-next.ensures.low;
  grows = adds_then [] [] _ _ _ c.loop-entry.invariant.grows c.in_ok-next.ensures.grows;
}
