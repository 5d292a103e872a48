use Rattle.std.proofs.Common.{◌≤◌, [], string_bytes}
use Rattle.heap_map.specs.Cells.{Adds}
use Rattle.heap_map.proofs.dumped.draw_new_objects.Given as goal

-- the objects so far end on the page
abbrev pub invariant-loop-entry : goal.invariant-loop-entry
invariant-loop-entry l = record { low : l.end ≤ 64; grows : Adds [] (string_bytes l.fn.picture) (string_bytes l.picture) }
