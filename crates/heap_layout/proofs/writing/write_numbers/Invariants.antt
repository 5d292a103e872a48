use Rattle.std.proofs.Common.{◌≡◌, take}
use Rattle.std.specs.List.{flat_map}
use Rattle.std.specs.Io.KnownBytes.{Appends}
use Rattle.heap_layout.specs.Counted.{inner_of, failures_of}
use Rattle.heap_layout.specs.Encoding.{four_bytes}
use Rattle.heap_layout.proofs.writing.write_numbers.Given as goal

abbrev pub invariant-loop-number : goal.invariant-loop-number
invariant-loop-number g l = record {
  written : Appends (g.W.Write.contents (inner_of l.fn.w)) (g.W.Write.contents (inner_of l.w)) (flat_map four_bytes (take l.number-index l.numbers));
  none_failed : failures_of l.w ≡ failures_of l.fn.w;
}
