use Rattle.std.proofs.Common.{subst, arith}
use Rattle.heap_layout.specs.Heap.{IsClosed}
use Rattle.page_plan.proofs.Objects.{live_words-part}
use Rattle.comp_audit.proofs.explaining.objects.slid_object.Goals as goal

pub overflow_add-result : goal.overflow_add-result
overflow_add-result c =
    let closed = subst IsClosed c.heap.ensures c.marks.ensures.closed in
    omega (arith, c.requires.begin, live_words-part c.args.plan.now closed c.args.number)
