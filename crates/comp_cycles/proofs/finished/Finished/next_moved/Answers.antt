use Rattle.std.proofs.Common.{◌∙◌, ℕ, List, subst}
use Rattle.heap_layout.specs.declared.fault.LayoutFault.{LayoutFault}
use Rattle.comp_cycles.specs.Ends.{cycle_of, next_sizes, IsRefusedFor, IsRefusedWithin}
use Rattle.comp_cycles.proofs.Calls.{own_heap, own_faults, own_cycle}
use Rattle.comp_cycles.proofs.finished.Finished.next_moved.Goals as goal

pub returns-in-Ok-clause-next : goal.returns-in-Ok-clause-next
returns-in-Ok-clause-next g c = c.in-Ok.ensures.next ∙ own_heap (g.B.Builder.heap c.args.builder.now) c.args.self c.args.marks.items c.requires.of c.roots.result.now c.roots.ensures

pub returns-in-Ok-clause-cycle : goal.returns-in-Ok-clause-cycle
returns-in-Ok-clause-cycle g c = own_cycle (g.B.Builder.heap c.args.builder.now) c.args.self c.args.marks.items c.requires.of c.roots.result.now c.roots.ensures c.in-Ok.ensures.accepted

pub returns-in-Ok-clause-chapter : goal.returns-in-Ok-clause-chapter
returns-in-Ok-clause-chapter g c = λ numbers stable numbered.
    let heap = g.B.Builder.heap c.args.builder.now in
    c.one_chapter.ensures heap (cycle_of heap c.args.self c.args.marks.items) numbers stable c.requires.of.closed
    (own_cycle heap c.args.self c.args.marks.items c.requires.of c.roots.result.now c.roots.ensures c.in-Ok.ensures.accepted) numbered

pub returns-in-Err-clause-refused : goal.returns-in-Err-clause-refused
returns-in-Err-clause-refused g c =
    subst (λ (list : List LayoutFault). IsRefusedFor list c.in-Err.fault) (own_faults (g.B.Builder.heap c.args.builder.now) c.args.self c.args.marks.items c.requires.of c.roots.result.now c.roots.ensures) c.in-Err.ensures.refused

pub returns-in-Err-clause-memory : goal.returns-in-Err-clause-memory
returns-in-Err-clause-memory g c = subst (λ (roots : List ℕ). IsRefusedWithin (next_sizes c.args.self c.args.marks.items roots) c.in-Err.fault) c.roots.ensures c.in-Err.ensures.memory
