use Rattle.std.proofs.Common.{◌≡◌, ℕ, ◌<◌, slice_index}
use Rattle.comp_audit.proofs.explaining.heads.explain_roots.Given as goal

-- the roots so far are right
abbrev pub invariant-loop-number : goal.invariant-loop-number
invariant-loop-number l = (k : ℕ) → k < l.number → slice_index l.roots k ≡ slice_index l.right k
