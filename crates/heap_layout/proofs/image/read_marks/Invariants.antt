use Rattle.std.proofs.Common.{◌≡◌, ◌-◌, ◌*◌, ◌^◌, ◌<◌, ◌≤◌, min, All, vec_len}
use Rattle.std.specs.Io.KnownBytes.{Consumes}
use Rattle.std.specs.List.{flat_map}
use Rattle.heap_layout.specs.Counted.{inner_of, failures_of}
use Rattle.heap_layout.specs.Encoding.{four_bytes}
use Rattle.heap_layout.proofs.image.read_marks.Given as goal

abbrev pub invariant-loop-marks : goal.invariant-loop-marks
invariant-loop-marks g l = record {
  few : vec_len l.marks ≤ l.count;
  piece : vec_len l.piece ≡ 4 * min l.count 8192;
  small : All (λ n. n < 2 ^ 32) l.marks.items;
  read : Consumes (g.R.Read.remaining (inner_of l.fn.r)) (g.R.Read.remaining (inner_of l.r)) (flat_map four_bytes l.marks.items);
  none_failed : failures_of l.r ≡ failures_of l.fn.r;
}

abbrev pub decreases-loop-marks : goal.decreases-loop-marks
decreases-loop-marks g l = l.count - vec_len l.marks
