use Rattle.std.proofs.Common.{[], string_bytes}
use Rattle.heap_map.specs.Cells.{Adds}
use Rattle.heap_map.proofs.dumped.draw_new_object.Given as goal

abbrev pub invariant-loop-within : goal.invariant-loop-within
invariant-loop-within l = Adds [] (string_bytes l.fn.picture) (string_bytes l.picture)
