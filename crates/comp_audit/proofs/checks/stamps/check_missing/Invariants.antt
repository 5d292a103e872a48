use Rattle.std.proofs.Common.{◌≡◌, ℕ, ◌<◌, slice_index}
use Rattle.comp_audit.proofs.checks.stamps.check_missing.Given as goal

-- those below i stand at their places
abbrev pub invariant-loop-i : goal.invariant-loop-i
invariant-loop-i l = (k : ℕ) → k < l.i → slice_index l.stamps k ≡ k
