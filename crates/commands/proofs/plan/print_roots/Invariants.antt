use Rattle.std.proofs.Common.{◌≡◌, take}
use Rattle.std.specs.Io.KnownBytes.{Appends}
use Rattle.std.specs.List.{flat_map, enumerate_from}
use Rattle.heap_layout.specs.Counted.{inner_of, failures_of, writer_of}
use Rattle.commands.specs.HeapTasks.{root_line}
use Rattle.commands.proofs.plan.print_roots.Given as goal

-- the lines of the roots so far were printed to the same writer, and no call failed
abbrev pub invariant-loop-number : goal.invariant-loop-number
invariant-loop-number g l = record {
  printed : Appends (g.O.Write.contents (inner_of l.fn.out).now) (g.O.Write.contents (inner_of l.out).now) (flat_map root_line (enumerate_from 0 (take l.number l.roots)));
  none_failed : failures_of l.out ≡ failures_of l.fn.out;
  same_writer : writer_of l.out ≡ writer_of l.fn.out;
}
