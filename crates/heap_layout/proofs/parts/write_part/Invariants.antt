use Rattle.std.proofs.Common.{length, take, ◌-◌, ◌≡◌, ◌≤◌}
use Rattle.std.specs.Io.KnownBytes.{Appends}
use Rattle.heap_layout.specs.Counted.{inner_of, failures_of}
use Rattle.heap_layout.proofs.parts.write_part.Given as goal

-- what was taken so far was appended, and no call failed
abbrev pub invariant-loop-taken : goal.invariant-loop-taken
invariant-loop-taken g l = record {
  within : l.taken ≤ length l.part;
  written : Appends (g.W.Write.contents (inner_of l.fn.w)) (g.W.Write.contents (inner_of l.w)) (take l.taken l.part);
  none_failed : failures_of l.w ≡ failures_of l.fn.w;
}

abbrev pub decreases-loop-taken : goal.decreases-loop-taken
decreases-loop-taken g l = length l.part - l.taken
