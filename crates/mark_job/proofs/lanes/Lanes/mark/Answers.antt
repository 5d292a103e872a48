use Rattle.std.proofs.Common.{subst}
use Rattle.std.specs.Mem.Slots.{slots_items}
use Rattle.atomic_table.specs.Table.{Final}
use Rattle.mark_job.specs.Asked.{Asked}
use Rattle.mark_job.specs.Lanes.{Holds}
use Rattle.mark_job.proofs.lanes.Lanes.mark.Goals as goal

pub mark_closed-requires-clause-ends : goal.mark_closed-requires-clause-ends
mark_closed-requires-clause-ends c =
    let closed = c.close-closed.result in
    subst (λ (asked : Asked). Final (Holds asked) (slots_items closed.words) (slots_items closed.slots)) c.requires.key c.close-closed.ensures.values.2
