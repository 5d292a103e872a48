use Rattle.std.proofs.Common.{◌≡◌, ℕ, ◌<◌}
use Rattle.comp_audit.specs.Explained.{stamped_on}
use Rattle.comp_audit.proofs.explaining.stamps.first_use.Given as goal

-- no page so far has an entry of the stamp
abbrev pub invariant-loop-p : goal.invariant-loop-p
invariant-loop-p l = (q : ℕ) → q < l.p → stamped_on l.dump l.stamp q ≡ 0
