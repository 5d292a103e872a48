use Rattle.heap_map.proofs.Standing.{adds_any, on_ok}
use Rattle.heap_map.proofs.grid.put.Goals as goal

pub returns-clause-grows : goal.returns-clause-grows
returns-clause-grows c = on_ok _ _ _ (λ is. adds_any _ _ _ is) c.write.ensures.bytes
