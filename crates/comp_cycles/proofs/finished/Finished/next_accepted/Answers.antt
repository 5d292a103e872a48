use Rattle.std.proofs.Common.{◌∙◌, refl, sym, subst}
use Rattle.heap_layout.specs.Faults.{IsAccepted}
use Rattle.comp_cycles.specs.Ends.{cycle_of}
use Rattle.comp_cycles.specs.Finishes.{roots_of}
use Rattle.comp_cycles.proofs.Calls.{made_accepted, made_next_of, own_heap, own_cycle}
use Rattle.comp_cycles.proofs.finished.Finished.next_accepted.Goals as goal

pub of_accepted-requires : goal.of_accepted-requires
of_accepted-requires g c =
    made_accepted (g.B.Builder.heap c.args._builder.now) c.args.self c.args.marks.items c.requires.of (roots_of c.args.self) c.requires.faultless
    c.edition.result c.args.moved.words.items c.args.moved.starts.items c.args.lowered.items c.edition.ensures c.requires.moved c.requires.lowered

pub returns-clause-next : goal.returns-clause-next
returns-clause-next g c =
    let heap = g.B.Builder.heap c.args._builder.now in
    c.of_accepted.ensures.made
    ∙ made_next_of heap c.args.self c.args.marks.items c.requires.of (roots_of c.args.self)
    c.edition.result c.args.moved.words.items c.args.moved.starts.items c.args.lowered.items c.edition.ensures c.requires.moved c.requires.lowered
    ∙ own_heap heap c.args.self c.args.marks.items c.requires.of (roots_of c.args.self) refl

pub returns-clause-accepted : goal.returns-clause-accepted
returns-clause-accepted g c =
    subst IsAccepted (sym c.of_accepted.ensures.made)
    (made_accepted (g.B.Builder.heap c.args._builder.now) c.args.self c.args.marks.items c.requires.of (roots_of c.args.self) c.requires.faultless
    c.edition.result c.args.moved.words.items c.args.moved.starts.items c.args.lowered.items c.edition.ensures c.requires.moved c.requires.lowered)

pub returns-clause-cycle : goal.returns-clause-cycle
returns-clause-cycle g c = own_cycle (g.B.Builder.heap c.args._builder.now) c.args.self c.args.marks.items c.requires.of (roots_of c.args.self) refl c.requires.faultless

pub returns-clause-chapter : goal.returns-clause-chapter
returns-clause-chapter g c = λ numbers stable numbered.
    let heap = g.B.Builder.heap c.args._builder.now in
    c.one_chapter.ensures heap (cycle_of heap c.args.self c.args.marks.items) numbers stable c.requires.of.closed
    (own_cycle heap c.args.self c.args.marks.items c.requires.of (roots_of c.args.self) refl c.requires.faultless) numbered
