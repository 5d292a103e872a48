use Rattle.std.proofs.Common.{[], string_bytes}
use Rattle.heap_map.specs.Cells.{Adds}
use Rattle.heap_map.proofs.words.draw_page.Given as goal

abbrev pub invariant-loop-offset : goal.invariant-loop-offset
invariant-loop-offset l = Adds [] (string_bytes l.fn.picture) (string_bytes l.picture)
