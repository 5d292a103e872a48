use Rattle.std.proofs.Common.{arith}
use Rattle.comp_audit.proofs.Ranges.{first_repeat, none_repeat}
use Rattle.comp_audit.proofs.checks.stamps.check_repeats.Goals as goal

pub returns-then-stamps-i-clause-reported : goal.returns-then-stamps-i-clause-reported
returns-then-stamps-i-clause-reported c =
    first_repeat c.args.stamps.now c.loop-i.i (omega arith) (omega arith) c.requires.sorted c.loop-i.invariant (omega arith)

pub returns-clause-reported : goal.returns-clause-reported
returns-clause-reported c = none_repeat c.args.stamps.now c.requires.sorted (λ k lt. c.loop-i.invariant k (omega arith))
