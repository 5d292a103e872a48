use Rattle.std.proofs.Common.{◌≡◌, ◌+◌, ◌*◌, ◌++◌, take, vec_len, vec_capacity}
use Rattle.std.specs.List.{flat_map}
use Rattle.heap_layout.specs.Encoding.{four_bytes}
use Rattle.heap_layout.proofs.image.push_marks.Given as goal

abbrev pub invariant-loop-i : goal.invariant-loop-i
invariant-loop-i l = record {
  bytes : flat_map four_bytes l.marks.items ≡ flat_map four_bytes l.fn.marks.items ++ take (4 * l.i) l.bytes;
  len : vec_len l.marks ≡ vec_len l.fn.marks + l.i;
  capacity : vec_capacity l.marks ≡ vec_capacity l.fn.marks;
}
