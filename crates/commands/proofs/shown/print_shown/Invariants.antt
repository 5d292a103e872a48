use Rattle.std.proofs.Common.{◌≡◌, take}
use Rattle.std.specs.Io.KnownBytes.{Appends}
use Rattle.std.specs.List.{flat_map}
use Rattle.heap_layout.specs.Counted.{inner_of, failures_of, writer_of}
use Rattle.commands.specs.TraceTasks.{shown_line}
use Rattle.commands.proofs.shown.print_shown.Given as goal

-- the lines of the values so far were printed to the same writer, and no call failed
abbrev pub invariant-loop-value : goal.invariant-loop-value
invariant-loop-value g l = record {
  printed : Appends (g.O.Write.contents (inner_of l.fn.out).now) (g.O.Write.contents (inner_of l.out).now) (flat_map shown_line (take l.value-index l.shown));
  none_failed : failures_of l.out ≡ failures_of l.fn.out;
  same_writer : writer_of l.out ≡ writer_of l.fn.out;
}
