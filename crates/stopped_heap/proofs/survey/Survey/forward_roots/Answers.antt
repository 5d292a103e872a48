use Rattle.std.proofs.Common.{ap, get_or, sym, subst, ◌∙◌}
use Rattle.std.proofs.lemmas.List.{get_or_default}
use Rattle.heap_layout.specs.Heap.{IsValue}
use Rattle.rest_marks.specs.Surveys.{heap_of}
use Rattle.stopped_heap.proofs.Viewed.{value-seen, settled-seen}
use Rattle.stopped_heap.proofs.survey.Survey.forward_roots.Goals as goal

pub returns-in-Err-clause-stray : goal.returns-in-Err-clause-stray
returns-in-Err-clause-stray c =
    let inside = c.self.inside in
    sym (value-seen inside.edition inside.words.now c.deref.result.now inside.heads.items (heap_of c.args.self.now) (get_or c.args.roots.now c.in-Err.k 0) c.deref.ensures.value (ap heap_of c.self.view_is))
    ∙ c.in-Err.ensures.stray

pub returns-in-Err-clause-first : goal.returns-in-Err-clause-first
returns-in-Err-clause-first c = λ j lt.
    let inside = c.self.inside in
    sym (value-seen inside.edition inside.words.now c.deref.result.now inside.heads.items (heap_of c.args.self.now) (get_or c.args.roots.now j 0) c.deref.ensures.value (ap heap_of c.self.view_is))
    ∙ c.in-Err.ensures.first j lt

pub returns-clause-all : goal.returns-clause-all
returns-clause-all c = λ k d lt.
    let inside = c.self.inside in
    let roots = c.args.roots.now in
    subst (IsValue c.args.self.now.edition c.args.self.now.marks) (get_or_default roots k 0 d lt)
    (sym (value-seen inside.edition inside.words.now c.deref.result.now inside.heads.items (heap_of c.args.self.now) (get_or roots k 0) c.deref.ensures.value (ap heap_of c.self.view_is))
    ∙ c.in_default.ensures.all k lt)

pub returns-clause-forwarded : goal.returns-clause-forwarded
returns-clause-forwarded c =
    let inside = c.self.inside in
    c.settle_all.ensures
    ∙ settled-seen inside.edition inside.words.now inside.heads.items inside.bits.items inside.counts.items c.deref-2.result.now c.deref-3.result.now (heap_of c.args.self.now) c.args.roots.now
    c.self.invariant.0 c.deref-2.ensures.value c.deref-3.ensures.value (ap heap_of c.self.view_is)
