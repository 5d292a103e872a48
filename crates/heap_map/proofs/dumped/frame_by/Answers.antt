use Rattle.std.proofs.Common.{[]}
use Rattle.heap_map.proofs.Standing.{adds_any, adds_then, on_ok}
use Rattle.heap_map.proofs.dumped.frame_by.Goals as goal

pub returns : goal.returns
returns c = on_ok _ _ _ (λ is. adds_then [] [] _ _ _ c.in_ok-put_numbered.ensures.grows (adds_any _ _ _ is)) c.write.ensures.bytes
