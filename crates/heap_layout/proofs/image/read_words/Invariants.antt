use Rattle.std.proofs.Common.{◌≡◌, ◌-◌, ◌*◌, ◌^◌, ◌<◌, ◌≤◌, min, All, vec_len}
use Rattle.std.specs.Io.KnownBytes.{Consumes}
use Rattle.std.specs.List.{flat_map}
use Rattle.heap_layout.specs.Counted.{inner_of, failures_of}
use Rattle.heap_layout.specs.Encoding.{eight_bytes}
use Rattle.heap_layout.proofs.image.read_words.Given as goal

abbrev pub invariant-loop-words : goal.invariant-loop-words
invariant-loop-words g l = record {
  few : vec_len l.words ≤ l.count;
  piece : vec_len l.piece ≡ 8 * min l.count 8192;
  small : All (λ n. n < 2 ^ 64) l.words.items;
  read : Consumes (g.R.Read.remaining (inner_of l.fn.r)) (g.R.Read.remaining (inner_of l.r)) (flat_map eight_bytes l.words.items);
  none_failed : failures_of l.r ≡ failures_of l.fn.r;
}

abbrev pub decreases-loop-words : goal.decreases-loop-words
decreases-loop-words g l = l.count - vec_len l.words
