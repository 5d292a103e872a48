use Rattle.std.proofs.Common.{ℕ, take, ap, arith}
use Rattle.command_io.proofs.Pieces.{whole_text}
use Rattle.command_io.proofs.whole.whole_by.Goals as goal

pub returns-in-Ok-eq0-clause-whole : goal.returns-in-Ok-eq0-clause-whole
returns-in-Ok-eq0-clause-whole g c =
    let n = c.in-Ok-eq0.field-0 in
    let bytes = c.in-Ok-eq0.ensures.bytes in
    whole_text _ _ _ c.loop-turn.whole.items (take n c.read.new.buf) c.loop-turn.invariant.read bytes.0
    (bytes.1 c.in-Ok-eq0.field-0-test (omega arith)) (ap (λ (m : ℕ). take m c.read.new.buf) c.in-Ok-eq0.field-0-test)
