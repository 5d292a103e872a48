use Rattle.std.proofs.Common.{arith}
use Rattle.comp_audit.proofs.Ranges.{first_missing, none_missing}
use Rattle.comp_audit.proofs.checks.stamps.check_missing.Goals as goal

pub returns-then-stamp-i : goal.returns-then-stamp-i
returns-then-stamp-i c = first_missing c.args.stamps.now c.loop-i.i (omega arith) c.requires.sorted c.requires.rises c.loop-i.invariant c.if-stamp-i.true

pub returns : goal.returns
returns c = none_missing c.args.stamps.now (λ k lt. c.loop-i.invariant k (omega arith))
