use Rattle.std.proofs.Common.{ℕ, List, Option, subst}
use Rattle.heap_layout.specs.Heap.{Heap}
use Rattle.comp_trace.specs.CycleRuns.{IsMarkedNext}
use Rattle.comp_trace.specs.Markings.{marks_given}
use Rattle.comp_trace.proofs.cycles.replaying.next_heap.Goals as goal

pub returns-in-Ok-next_marked-clause-next : goal.returns-in-Ok-next_marked-clause-next
returns-in-Ok-next_marked-clause-next g c =
    let f = c.args.finished in
    let heap = c.in-Ok-next_marked.heap in
    let said = c.in-Ok-next_marked.ensures in
    subst (λ (given : Option (List ℕ)). IsMarkedNext given c.args.plan.value f heap) c.in-Ok.ensures
    (subst (λ (now : Heap). IsMarkedNext (marks_given c.in-Ok.marking) now f heap) c.deref.ensures (record { ended = record { cycle = said.cycle; marked = said.marked }; next_is = said.next }))
