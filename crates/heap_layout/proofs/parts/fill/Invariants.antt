use Rattle.std.proofs.Common.{ℕ, length, ◌-◌, ◌^◌, ◌≡◌, ◌<◌, ◌≤◌, take, slice_index}
use Rattle.std.specs.Io.KnownBytes.{Consumes}
use Rattle.heap_layout.specs.Counted.{inner_of, failures_of}
use Rattle.heap_layout.proofs.parts.fill.Given as goal

abbrev pub invariant-loop-filled : goal.invariant-loop-filled
invariant-loop-filled g l = record {
  within : l.filled ≤ length l.buf;
  read : Consumes (g.R.Read.remaining (inner_of l.fn.r)) (g.R.Read.remaining (inner_of l.r)) (take l.filled l.buf);
  small : (i : ℕ) → slice_index l.buf i < 2 ^ 8;
  none_failed : failures_of l.r ≡ failures_of l.fn.r;
}

abbrev pub decreases-loop-filled : goal.decreases-loop-filled
decreases-loop-filled g l = length l.initial.buf - l.filled
