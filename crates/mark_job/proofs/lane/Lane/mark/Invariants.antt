use Rattle.std.proofs.Common.{◌≡◌, ℕ, true, length}
use Rattle.heap_layout.specs.Bits.{bit}
use Rattle.mark_job.specs.Asked.{IsMetIn}
use Rattle.mark_job.proofs.lane.Lane.mark.Given as goal

abbrev pub invariant-loop-k : goal.invariant-loop-k
invariant-loop-k l = record {
  long : length l.heads ≡ length l.fn.heads;
  met : (i : ℕ) → bit l.heads i ≡ true → IsMetIn l.image i;
}
