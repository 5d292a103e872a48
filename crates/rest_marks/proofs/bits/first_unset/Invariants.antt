use Rattle.std.proofs.Common.{◌≡◌, ℕ, ◌*◌, ◌<◌, true}
use Rattle.heap_layout.specs.Bits.{bit}
use Rattle.rest_marks.proofs.bits.first_unset.Given as goal

abbrev pub invariant-loop-b : goal.invariant-loop-b
invariant-loop-b l = (j : ℕ) → j < 64 * l.b → bit l.bits j ≡ true
