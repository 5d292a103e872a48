use Rattle.rest_marks.proofs.Queued.{once-none}
use Rattle.stopped_heap.proofs.looks.Looks.begin.Goals as goal

pub meet_all-requires-clause-once : goal.meet_all-requires-clause-once
meet_all-requires-clause-once c = rw c.new-queue.ensures.items (once-none c.args.count)
