use Rattle.std.proofs.Common.{◌≡◌, ℕ, ◌*◌, ◌<◌, true}
use Rattle.heap_layout.specs.Bits.{bit}
use Rattle.rest_marks.proofs.lane_bits.first_missing.Given as goal

abbrev pub invariant-loop-b : goal.invariant-loop-b
invariant-loop-b l = (i : ℕ) → i < 64 * l.b → bit l.one i ≡ true → bit l.other i ≡ true
