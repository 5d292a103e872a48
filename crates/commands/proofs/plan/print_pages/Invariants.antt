use Rattle.std.proofs.Common.{◌≡◌}
use Rattle.std.specs.Io.KnownBytes.{Appends}
use Rattle.std.specs.List.{flat_map, range_with_len}
use Rattle.heap_layout.specs.Counted.{inner_of, failures_of, writer_of}
use Rattle.heap_layout.specs.Heap.{live}
use Rattle.commands.specs.HeapTasks.{page_line}
use Rattle.commands.proofs.plan.print_pages.Given as goal

-- the lines of the pages so far were printed to the same writer, and no call failed
abbrev pub invariant-loop-p : goal.invariant-loop-p
invariant-loop-p g l = record {
  printed : Appends (g.O.Write.contents (inner_of l.fn.out).now) (g.O.Write.contents (inner_of l.out).now) (flat_map (page_line (live l.plan)) (range_with_len 0 l.p));
  none_failed : failures_of l.out ≡ failures_of l.fn.out;
  same_writer : writer_of l.out ≡ writer_of l.fn.out;
}
