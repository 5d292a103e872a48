use Rattle.std.proofs.Common.{◌∙◌}
use Rattle.comp_cycles.specs.Ends.{cycle_with}
use Rattle.comp_cycles.proofs.Calls.{new_heap, new_cycle}
use Rattle.comp_cycles.proofs.finished.Finished.next_moved_with.Goals as goal

pub returns-in-Ok-clause-next : goal.returns-in-Ok-clause-next
returns-in-Ok-clause-next g c = c.in-Ok.ensures.next ∙ new_heap (g.B.Builder.heap c.args.builder.now) c.args.self c.args.marks.items c.requires.of c.args.roots.now c.in-Ok.ensures.accepted

pub returns-in-Ok-clause-cycle : goal.returns-in-Ok-clause-cycle
returns-in-Ok-clause-cycle g c = new_cycle (g.B.Builder.heap c.args.builder.now) c.args.self c.args.marks.items c.requires.of c.args.roots.now c.in-Ok.ensures.accepted

pub returns-in-Ok-clause-chapter : goal.returns-in-Ok-clause-chapter
returns-in-Ok-clause-chapter g c = λ numbers stable numbered.
    let heap = g.B.Builder.heap c.args.builder.now in
    c.one_chapter.ensures heap (cycle_with heap c.args.self c.args.roots.now c.args.marks.items) numbers stable c.requires.of.closed
    (new_cycle heap c.args.self c.args.marks.items c.requires.of c.args.roots.now c.in-Ok.ensures.accepted) numbered
