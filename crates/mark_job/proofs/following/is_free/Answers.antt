use Rattle.std.proofs.Common.{◌≡◌, ℕ, bit_and, ap, ◌∙◌, arith}
use Rattle.std.specs.Int.{bit_at}
use Rattle.std.proofs.lemmas.Bool.{eqb-true}
use Rattle.std.proofs.lemmas.Nat.Bits.{bit_at_and, bit_at-lt, bit_at-zero}
use Rattle.mark_job.proofs.following.is_free.Goals as goal

pub returns : goal.returns
returns c = λ is k lt one.
    let found = c.args.found in
    let wanted = c.args.wanted in
    let both = bit_at_and found wanted k in
    let none : bit_at (bit_and found wanted) k ≡ 0 = ap (λ (n : ℕ). bit_at n k) (eqb-true (bit_and found wanted) 0 is) ∙ bit_at-zero k in
    let few = bit_at-lt found k in
    omega arith
