use Rattle.std.proofs.Common.{◌-◌, [], string_bytes}
use Rattle.heap_map.specs.Cells.{Adds}
use Rattle.heap_map.proofs.words.draw_unmarked.Given as goal

abbrev pub invariant-loop-start : goal.invariant-loop-start
invariant-loop-start l = Adds [] (string_bytes l.fn.picture) (string_bytes l.picture)

abbrev pub decreases-loop-start : goal.decreases-loop-start
decreases-loop-start l = l.end - l.start
