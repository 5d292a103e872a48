use Rattle.std.proofs.Common.{◌≡◌, ℕ, ◌<◌, length, get_or}
use Rattle.std.specs.Mem.Slots.{slots_items}
use Rattle.mark_job.proofs.heads.first_blocks.Given as goal

abbrev pub invariant-loop-k : goal.invariant-loop-k
invariant-loop-k l = record {
  long : length l.heads.items ≡ l.k;
  same : (k : ℕ) → k < l.k → get_or l.heads.items k 0 ≡ get_or (slots_items l.closed.words) k 0;
}
