use Rattle.std.proofs.Common.{◌≡◌, ◌+◌, ◌*◌, ◌++◌, take, vec_len, vec_capacity}
use Rattle.std.specs.List.{flat_map}
use Rattle.heap_layout.specs.Encoding.{eight_bytes}
use Rattle.heap_layout.proofs.image.push_words.Given as goal

abbrev pub invariant-loop-i : goal.invariant-loop-i
invariant-loop-i l = record {
  bytes : flat_map eight_bytes l.words.items ≡ flat_map eight_bytes l.fn.words.items ++ take (8 * l.i) l.bytes;
  len : vec_len l.words ≡ vec_len l.fn.words + l.i;
  capacity : vec_capacity l.words ≡ vec_capacity l.fn.words;
}
