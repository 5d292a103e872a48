use Rattle.std.proofs.Common.{ℕ, ◌*◌, ◌∙◌, List, length, ap, sym, subst}
use Rattle.std.proofs.lemmas.Result.{MatchResult-weaker, IfOk-weaker}
use Rattle.heap_layout.specs.Heap.{Heap}
use Rattle.heap_layout.specs.Faults.{mark_faults, faults, IsFirst, IsAnswered}
use Rattle.heap_layout.specs.declared.fault.LayoutFault.{LayoutFault}
use Rattle.comp_cycles.specs.Finishes.{pages_of, journals_of}
use Rattle.comp_cycles.specs.Ends.{setup_in, AreMoved}
use Rattle.comp_cycles.specs.NextHeap.{object_starts}
use Rattle.comp_cycles.proofs.Refusals.{accepted_is, bits_are, faults_are, made_next, mark_refused, refused_answer}
use Rattle.comp_cycles.proofs.next_cycle.next_of.Goals as goal

pub returns-in-Err-clause-refused : goal.returns-in-Err-clause-refused
returns-in-Err-clause-refused g c =
    let heap = g.B.Builder.heap c.args._builder.now in
    let f = c.args.finished.now in
    let row = object_starts (setup_in heap f) (journals_of f) in
    let bits = bits_are heap f c.args.marks.items c.args.roots.now c.requires.of c.args.moved.words.items c.deref.result.now
    (subst (λ (b : List ℕ). AreMoved (setup_in heap f) (journals_of f) (64 * length (pages_of f)) c.args.moved.words.items b) (sym c.deref.ensures.value) c.requires.moved) (ap length c.deref.ensures.value ∙ c.requires.bits) in
    mark_refused heap f c.args.marks.items c.args.roots.now c.requires.of c.in-Err.fault c.requires.sizes
    (subst (λ (l : List ℕ). IsFirst (mark_faults row 0 l) c.in-Err.fault) c.deref-2.ensures.value (c.in-Err.ensures row bits))

pub returns-clause-next : goal.returns-clause-next
returns-clause-next g c =
    let heap = g.B.Builder.heap c.args._builder.now in
    let made = made_next heap c.args.finished.now c.args.marks.items c.args.roots.now c.requires.of c.edition-edition.result c.args.moved.words.items c.args.moved.starts.items c.in-Ok.roots.items c.edition-edition.ensures c.requires.moved c.in-Ok.ensures in
    IfOk-weaker c.from_parts_of.result _ _ (λ (h : Heap) e. e ∙ made) c.from_parts_of.ensures.made

pub returns-clause-accepted : goal.returns-clause-accepted
returns-clause-accepted g c =
    let heap = g.B.Builder.heap c.args._builder.now in
    let f = c.args.finished.now in
    let row = object_starts (setup_in heap f) (journals_of f) in
    let bits = bits_are heap f c.args.marks.items c.args.roots.now c.requires.of c.args.moved.words.items c.deref.result.now
    (subst (λ (b : List ℕ). AreMoved (setup_in heap f) (journals_of f) (64 * length (pages_of f)) c.args.moved.words.items b) (sym c.deref.ensures.value) c.requires.moved) (ap length c.deref.ensures.value ∙ c.requires.bits) in
    let made = made_next heap f c.args.marks.items c.args.roots.now c.requires.of c.edition-edition.result c.args.moved.words.items c.args.moved.starts.items c.in-Ok.roots.items c.edition-edition.ensures c.requires.moved c.in-Ok.ensures in
    accepted_is heap f c.args.marks.items c.args.roots.now c.requires.of c.from_parts_of.result _ made c.requires.sizes (sym (ap (mark_faults row 0) c.deref-2.ensures.value) ∙ c.in_default.ensures row bits)
    c.from_parts_of.ensures.made c.from_parts_of.ensures.accepted

pub returns-clause-refused : goal.returns-clause-refused
returns-clause-refused g c =
    let heap = g.B.Builder.heap c.args._builder.now in
    let f = c.args.finished.now in
    let row = object_starts (setup_in heap f) (journals_of f) in
    let bits = bits_are heap f c.args.marks.items c.args.roots.now c.requires.of c.args.moved.words.items c.deref.result.now
    (subst (λ (b : List ℕ). AreMoved (setup_in heap f) (journals_of f) (64 * length (pages_of f)) c.args.moved.words.items b) (sym c.deref.ensures.value) c.requires.moved) (ap length c.deref.ensures.value ∙ c.requires.bits) in
    let made = made_next heap f c.args.marks.items c.args.roots.now c.requires.of c.edition-edition.result c.args.moved.words.items c.args.moved.starts.items c.in-Ok.roots.items c.edition-edition.ensures c.requires.moved c.in-Ok.ensures in
    let same = ap faults made ∙ faults_are heap f c.args.marks.items c.args.roots.now c.requires.of c.requires.sizes (sym (ap (mark_faults row 0) c.deref-2.ensures.value) ∙ c.in_default.ensures row bits) in
    MatchResult-weaker c.from_parts_of.result c.from_parts_of.ensures.fault (λ _ t. t) (λ fault answered. refused_answer _ fault (subst (λ (l : List LayoutFault). IsAnswered l fault) same answered))
