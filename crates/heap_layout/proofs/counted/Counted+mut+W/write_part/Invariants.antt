use Rattle.std.proofs.Common.{length, take, ◌-◌, ◌≡◌, ◌≤◌, ◌<◌, false}
use Rattle.std.specs.Io.KnownBytes.{Appends}
use Rattle.heap_layout.specs.Counted.{inner_of, failures_of, is_flushed_of, writer_of}
use Rattle.heap_layout.proofs.counted.Counted+mut+W.write_part.Given as goal

-- what was taken so far was appended, no call failed, and nothing was flushed
abbrev pub invariant-loop-taken : goal.invariant-loop-taken
invariant-loop-taken g l = record {
  within : l.taken ≤ length l.part;
  written : Appends (g.W.Write.contents (inner_of l.fn.self).now) (g.W.Write.contents (inner_of l.self).now) (take l.taken l.part);
  none_failed : failures_of l.self ≡ failures_of l.fn.self;
  same_writer : writer_of l.self ≡ writer_of l.fn.self;
  unflushed : 0 < l.taken → is_flushed_of l.self ≡ false;
  untouched : l.taken ≡ 0 → is_flushed_of l.self ≡ is_flushed_of l.fn.self;
}

abbrev pub decreases-loop-taken : goal.decreases-loop-taken
decreases-loop-taken g l = length l.part - l.taken
