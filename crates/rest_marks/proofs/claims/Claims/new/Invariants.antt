use Rattle.std.proofs.Common.{◌≡◌, length}
use Rattle.rest_marks.proofs.claims.Claims.new.Given as goal

abbrev pub invariant-loop : goal.invariant-loop
invariant-loop l = length l.bits.items ≡ l.counter
