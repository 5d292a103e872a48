use Rattle.std.proofs.Common.{◌++◌, append_assoc}
use Rattle.heap_map.proofs.Standing.{adds_any, on_ok}
use Rattle.heap_map.proofs.grid.put_numbered.Goals as goal

pub returns-clause-bytes : goal.returns-clause-bytes
returns-clause-bytes c = rw append_assoc c.write.ensures.bytes

pub returns-clause-grows : goal.returns-clause-grows
returns-clause-grows c = on_ok _ _ _ (λ is. adds_any _ _ _ is) c.write.ensures.bytes
