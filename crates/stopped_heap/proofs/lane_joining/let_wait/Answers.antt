use Rattle.std.proofs.Common.{sym, ◌∙◌}
use Rattle.rest_marks.proofs.Queued.{once-push}
use Rattle.stopped_heap.proofs.lane_joining.let_wait.Goals as goal

pub returns-clause-once : goal.returns-clause-once
returns-clause-once c =
    let unmet = sym (c.requires.met _) ∙ sym c.is_set.ensures ∙ c.if-is_set.false in
    rw c.in_ok-push.ensures.items (once-push c.args.count c.args.queue.now.items _ c.requires.once c.requires.inside unmet)
