use Rattle.std.proofs.Common.{sym, ◌∙◌, arith}
use Rattle.rest_marks.proofs.Queued.{once-push, once-short}
use Rattle.rest_marks.proofs.queue.meet.Goals as goal

pub returns-in_default-clause-short : goal.returns-in_default-clause-short
returns-in_default-clause-short c =
    let unmet = sym (c.requires.met _) ∙ sym c.is_set.ensures ∙ c.if-not-is_set.true in
    omega (arith, once-short c.args.count c.args.queue.now.items _ c.requires.once (omega (arith, c.if-i-count.false)) unmet, c.in_default.ensures.full)

pub returns-in-Ok-clause-once : goal.returns-in-Ok-clause-once
returns-in-Ok-clause-once c =
    let unmet = sym (c.requires.met _) ∙ sym c.is_set.ensures ∙ c.if-not-is_set.true in
    rw c.in-Ok.ensures.items (once-push c.args.count c.args.queue.now.items _ c.requires.once (omega (arith, c.if-i-count.false)) unmet)
