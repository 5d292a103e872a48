use Rattle.std.proofs.Common.{◌≡◌, take}
use Rattle.std.specs.Io.KnownBytes.{Appends}
use Rattle.std.specs.List.{flat_map}
use Rattle.heap_layout.specs.Counted.{inner_of, failures_of, writer_of}
use Rattle.command_io.specs.Wording.{piece_text}
use Rattle.command_io.proofs.wording.print_pieces.Given as goal

-- the pieces so far were printed to the same writer, and no call failed
abbrev pub invariant-loop-piece : goal.invariant-loop-piece
invariant-loop-piece g l = record {
  printed : Appends (g.O.Write.contents (inner_of l.fn.out).now) (g.O.Write.contents (inner_of l.out).now) (flat_map piece_text (take l.piece-index l.pieces));
  none_failed : failures_of l.out ≡ failures_of l.fn.out;
  same_writer : writer_of l.out ≡ writer_of l.fn.out;
}
