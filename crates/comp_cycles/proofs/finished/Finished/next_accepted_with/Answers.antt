use Rattle.std.proofs.Common.{◌∙◌, sym, subst}
use Rattle.heap_layout.specs.Faults.{IsAccepted}
use Rattle.comp_cycles.specs.Ends.{cycle_with}
use Rattle.comp_cycles.proofs.Calls.{made_accepted, made_next_of, new_heap, new_cycle}
use Rattle.comp_cycles.proofs.finished.Finished.next_accepted_with.Goals as goal

pub of_accepted-requires : goal.of_accepted-requires
of_accepted-requires g c =
    made_accepted (g.B.Builder.heap c.args._builder.now) c.args.self c.args.marks.items c.requires.of c.args._roots.now c.requires.faultless
    c.edition-edition.result c.args.moved.words.items c.args.moved.starts.items c.args.lowered.items c.edition-edition.ensures c.requires.moved c.requires.lowered

pub returns-clause-next : goal.returns-clause-next
returns-clause-next g c =
    let heap = g.B.Builder.heap c.args._builder.now in
    c.of_accepted.ensures.made
    ∙ made_next_of heap c.args.self c.args.marks.items c.requires.of c.args._roots.now
    c.edition-edition.result c.args.moved.words.items c.args.moved.starts.items c.args.lowered.items c.edition-edition.ensures c.requires.moved c.requires.lowered
    ∙ new_heap heap c.args.self c.args.marks.items c.requires.of c.args._roots.now c.requires.faultless

pub returns-clause-accepted : goal.returns-clause-accepted
returns-clause-accepted g c =
    subst IsAccepted (sym c.of_accepted.ensures.made)
    (made_accepted (g.B.Builder.heap c.args._builder.now) c.args.self c.args.marks.items c.requires.of c.args._roots.now c.requires.faultless
    c.edition-edition.result c.args.moved.words.items c.args.moved.starts.items c.args.lowered.items c.edition-edition.ensures c.requires.moved c.requires.lowered)

pub returns-clause-cycle : goal.returns-clause-cycle
returns-clause-cycle g c = new_cycle (g.B.Builder.heap c.args._builder.now) c.args.self c.args.marks.items c.requires.of c.args._roots.now c.requires.faultless

pub returns-clause-chapter : goal.returns-clause-chapter
returns-clause-chapter g c = λ numbers stable numbered.
    let heap = g.B.Builder.heap c.args._builder.now in
    c.one_chapter.ensures heap (cycle_with heap c.args.self c.args._roots.now c.args.marks.items) numbers stable c.requires.of.closed
    (new_cycle heap c.args.self c.args.marks.items c.requires.of c.args._roots.now c.requires.faultless) numbered
