use Rattle.std.proofs.Common.{◌≡◌, ◌-◌, ◌≤◌, length, take}
use Rattle.std.specs.List.{flat_map}
use Rattle.std.specs.Io.KnownBytes.{Appends}
use Rattle.heap_layout.specs.Counted.{inner_of, failures_of}
use Rattle.heap_layout.specs.Encoding.{eight_bytes}
use Rattle.heap_layout.proofs.writing.write_words.Given as goal

-- the words so far were appended, and no call failed
abbrev pub invariant-loop-written : goal.invariant-loop-written
invariant-loop-written g l = record {
  within : l.written ≤ length l.words;
  appended : Appends (g.W.Write.contents (inner_of l.fn.w)) (g.W.Write.contents (inner_of l.w)) (flat_map eight_bytes (take l.written l.words));
  none_failed : failures_of l.w ≡ failures_of l.fn.w;
}

abbrev pub decreases-loop-written : goal.decreases-loop-written
decreases-loop-written g l = length l.words - l.written
