use Rattle.std.proofs.Common.{List, ℕ, sym, ap, subst}
use Rattle.heap_layout.specs.Heap.{Heap}
use Rattle.comp_cycles.specs.Cycles.{IsChapter}
use Rattle.comp_cycles.specs.Ends.{cycle_of}
use Rattle.reachable_cycles.proofs.Refused.{with_both}
use Rattle.comp_trace.proofs.cycles.marking.next_marked.Goals as goal

pub returns-in-Given-clause-chapter : goal.returns-in-Given-clause-chapter
returns-in-Given-clause-chapter g c =
    let heap = g.B.Builder.heap c.args.builder.now in
    let f = c.args.finished in
    with_both c.next_cycle.result _ _ _
    (λ next same tells numbers stable numbered. subst (λ (list : List ℕ). IsChapter (cycle_of heap f list) numbers stable) (sym (ap (λ (h : Heap). h.marks) same)) (tells numbers stable numbered))
    c.next_cycle.ensures.next c.next_cycle.ensures.chapter
