use Rattle.std.proofs.Common.{◌≡◌, ℕ, ◌<◌, length, get_or}
use Rattle.comp_crew.specs.NextHeap.{lowered}
use Rattle.flip_handle.proofs.settling.copy_rested.Given as goal

-- the first k addresses are copied
abbrev pub invariant-loop-k : goal.invariant-loop-k
invariant-loop-k l = record {
  long : length l.out ≡ length l.fn.out;
  done : (j : ℕ) → j < l.k → get_or l.out j 0 ≡ lowered l.edition (get_or l.addresses j 0);
}
