use Rattle.std.proofs.Common.{ℕ, List, [], ◌++◌, All, filter, length, take, sym, subst, ◌∙◌, arith}
use Rattle.heap_layout.specs.declared.edition.Edition.{Edition}
use Rattle.heap_layout.specs.Heap.{IsValue}
use Rattle.rest_marks.specs.Growing.{roots_on}
use Rattle.stopped_heap.specs.Guarded.{is_lost, AreHeldFrom, IsOnFaultOf}
use Rattle.stopped_heap.proofs.Guardians.{carried, fault-begun, fault-first, fault-second, held-both, leads-both, lost-taken}
use Rattle.stopped_heap.proofs.guarding.survey_guarded.Goals as goal

pub returns-in-Err-begin-clause-fault : goal.returns-in-Err-begin-clause-fault
returns-in-Err-begin-clause-fault c =
    let a = c.args in
    fault-begun a.edition a.words.now a.roots.now a.ephemerons.now a.guarded.now c.in-Err-begin.fault (omega (arith, c.if-words-max_words.false, c.max_words.ensures))
    (omega (arith, c.if-roots-max_roots.false, c.max_roots.ensures)) c.in-Err-begin.ensures.fault

pub returns-in-Err-hold_more-clause-fault : goal.returns-in-Err-hold_more-clause-fault
returns-in-Err-hold_more-clause-fault c =
    let a = c.args in
    let roots = a.roots.now in
    let ephemerons = a.ephemerons.now in
    let none = c.in-Ok.none in
    let begun = c.in-Ok.ensures in
    let fault = c.in-Err-hold_more.fault in
    fault-first a.edition a.words.now roots ephemerons a.guarded.now fault (omega (arith, c.if-words-max_words.false, c.max_words.ensures))
    (omega (arith, c.if-roots-max_roots.false, c.max_roots.ensures))
    (carried (λ edition words marks. IsOnFaultOf edition words marks roots ephemerons (length roots) fault) a.edition none.edition a.words.now none.words none.marks [] begun.edition begun.words
    begun.none c.in-Err-hold_more.ensures.fault)

pub returns-in-Err-hold_more-2-clause-fault : goal.returns-in-Err-hold_more-2-clause-fault
returns-in-Err-hold_more-2-clause-fault c =
    let a = c.args in
    let words = a.words.now in
    let roots = a.roots.now in
    let ephemerons = a.ephemerons.now in
    let guarded = a.guarded.now in
    let none = c.in-Ok.none in
    let kept = c.in-Ok-hold_more.kept in
    let begun = c.in-Ok.ensures in
    let is = c.in-Ok-hold_more.ensures in
    let parted = c.in_ok-parted.parted in
    let fault = c.in-Err-hold_more-2.fault in
    let first : AreHeldFrom a.edition words roots ephemerons kept.marks =
    carried (λ edition words marks. AreHeldFrom edition words (roots_on marks roots) ephemerons kept.marks) a.edition none.edition words none.words none.marks [] begun.edition begun.words
    begun.none is.held in
    let lost = lost-taken a.edition kept.edition kept.marks guarded parted.order.items c.deref.result.now parted.lost (is.edition ∙ begun.edition) c.deref.ensures.value
    c.in_ok-parted.ensures.order c.in_ok-parted.ensures.count in
    fault-second a.edition words roots ephemerons guarded kept.marks fault (omega (arith, c.if-words-max_words.false, c.max_words.ensures))
    (omega (arith, c.if-roots-max_roots.false, c.max_roots.ensures)) first c.in_default.ensures.all
    (carried (λ edition words more. IsOnFaultOf edition words kept.marks more ephemerons (length roots) fault) a.edition kept.edition words kept.words (take parted.lost c.deref.result.now)
    (filter (is_lost a.edition kept.marks) guarded) (is.edition ∙ begun.edition) (is.words ∙ begun.words) lost c.in-Err-hold_more-2.ensures.fault)

pub returns-clause-held : goal.returns-clause-held
returns-clause-held c =
    let a = c.args in
    let words = a.words.now in
    let roots = a.roots.now in
    let ephemerons = a.ephemerons.now in
    let guarded = a.guarded.now in
    let none = c.in-Ok.none in
    let kept = c.in-Ok-hold_more.kept in
    let all = c.in-Ok-hold_more-2.all in
    let begun = c.in-Ok.ensures in
    let is = c.in-Ok-hold_more.ensures in
    let parted = c.in_ok-parted.parted in
    let first : AreHeldFrom a.edition words roots ephemerons kept.marks =
    carried (λ edition words marks. AreHeldFrom edition words (roots_on marks roots) ephemerons kept.marks) a.edition none.edition words none.words none.marks [] begun.edition begun.words
    begun.none is.held in
    let lost = lost-taken a.edition kept.edition kept.marks guarded parted.order.items c.deref.result.now parted.lost (is.edition ∙ begun.edition) c.deref.ensures.value
    c.in_ok-parted.ensures.order c.in_ok-parted.ensures.count in
    let second =
    carried (λ edition words more. AreHeldFrom edition words (roots_on kept.marks more) ephemerons all.marks) a.edition kept.edition words kept.words (take parted.lost c.deref.result.now)
    (filter (is_lost a.edition kept.marks) guarded) (is.edition ∙ begun.edition) (is.words ∙ begun.words) lost c.in-Ok-hold_more-2.ensures.held in
    subst (AreHeldFrom a.edition words (roots ++ guarded) ephemerons) (sym c.settle.ensures.marks)
    (held-both a.edition words roots ephemerons guarded kept.marks (omega (arith, c.if-words-max_words.false, c.max_words.ensures)) first all.marks second)

pub returns-clause-leads : goal.returns-clause-leads
returns-clause-leads c =
    let a = c.args in
    let words = a.words.now in
    let roots = a.roots.now in
    let ephemerons = a.ephemerons.now in
    let guarded = a.guarded.now in
    let none = c.in-Ok.none in
    let kept = c.in-Ok-hold_more.kept in
    let all = c.in-Ok-hold_more-2.all in
    let begun = c.in-Ok.ensures in
    let is = c.in-Ok-hold_more.ensures in
    let parted = c.in_ok-parted.parted in
    let first : AreHeldFrom a.edition words roots ephemerons kept.marks =
    carried (λ edition words marks. AreHeldFrom edition words (roots_on marks roots) ephemerons kept.marks) a.edition none.edition words none.words none.marks [] begun.edition begun.words
    begun.none is.held in
    let lost = lost-taken a.edition kept.edition kept.marks guarded parted.order.items c.deref.result.now parted.lost (is.edition ∙ begun.edition) c.deref.ensures.value
    c.in_ok-parted.ensures.order c.in_ok-parted.ensures.count in
    let second =
    carried (λ edition words more. AreHeldFrom edition words (roots_on kept.marks more) ephemerons all.marks) a.edition kept.edition words kept.words (take parted.lost c.deref.result.now)
    (filter (is_lost a.edition kept.marks) guarded) (is.edition ∙ begun.edition) (is.words ∙ begun.words) lost c.in-Ok-hold_more-2.ensures.held in
    let of_lost =
    carried (λ edition _ more. All (IsValue edition all.marks) more) a.edition kept.edition words kept.words (take parted.lost c.deref.result.now)
    (filter (is_lost a.edition kept.marks) guarded) (is.edition ∙ begun.edition) (is.words ∙ begun.words) lost c.in-Ok-hold_more-2.ensures.leads in
    let of_roots = subst (λ (edition : Edition). All (IsValue edition kept.marks) roots) begun.edition is.leads in
    subst (λ (marks : List ℕ). All (IsValue a.edition marks) (roots ++ guarded)) (sym c.settle.ensures.marks)
    (leads-both a.edition words roots ephemerons guarded kept.marks (omega (arith, c.if-words-max_words.false, c.max_words.ensures)) first all.marks second of_roots of_lost)
