use Rattle.std.proofs.Common.{ℕ, ◌+◌, ◌<◌, slice_index}
use Rattle.comp_audit.proofs.checks.stamps.check_repeats.Given as goal

-- the stamps up to i rise
abbrev pub invariant-loop-i : goal.invariant-loop-i
invariant-loop-i l = (k : ℕ) → k + 1 < l.i → slice_index l.stamps k < slice_index l.stamps (k + 1)
