use Rattle.std.proofs.Common.{ℕ, ◌≡◌, ◌+◌, ◌≤◌, min, drop, length, slice_index}
use Rattle.comp_history.specs.CellEnds.{lists as items_of}
use Rattle.comp_history.specs.Builds.{named}
use Rattle.comp_audit.proofs.checks.claims.count_lists.Given as goal

abbrev pub invariant-loop-list : goal.invariant-loop-list
invariant-loop-list l = record {
  same : length l.counts ≡ length l.fn.counts;
  few : (p : ℕ) → slice_index l.counts p ≤ 2;
  counts : (p : ℕ) → min (slice_index l.counts p + named p (drop l.list-index (items_of l.lists))) 2
      ≡ min (slice_index l.fn.counts p + named p (items_of l.lists)) 2;
}
