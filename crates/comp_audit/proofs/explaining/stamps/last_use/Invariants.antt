use Rattle.std.proofs.Common.{◌≡◌, ℕ, ◌<◌}
use Rattle.comp_audit.specs.Explained.{stamped_on}
use Rattle.comp_audit.proofs.explaining.stamps.last_use.Given as goal

-- the last of the pages so far
abbrev pub invariant-loop-p : goal.invariant-loop-p
invariant-loop-p l = record {
  after : (q : ℕ) → l.last < q → q < l.p → stamped_on l.dump l.stamp q ≡ 0;
  here : (q : ℕ) → q < l.p → 0 < stamped_on l.dump l.stamp q → 0 < stamped_on l.dump l.stamp l.last;
}
