use Rattle.std.proofs.Common.{ℕ, ◌≡◌, ◌+◌, ◌≤◌, min, drop, length, slice_index}
use Rattle.comp_history.specs.Lists.{times}
use Rattle.comp_audit.proofs.checks.claims.count_in.Given as goal

abbrev pub invariant-loop-p : goal.invariant-loop-p
invariant-loop-p l = record {
  same : length l.counts ≡ length l.fn.counts;
  few : (p : ℕ) → slice_index l.counts p ≤ 2;
  counts : (p : ℕ) → min (slice_index l.counts p + times p (drop l.p-index l.list)) 2 ≡ min (slice_index l.fn.counts p + times p l.list) 2;
}
