use Rattle.std.proofs.Common.{◌≡◌, ℕ, ◌++◌, All, List, sym, subst, ◌∙◌, arith}
use Rattle.heap_layout.specs.declared.edition.Edition.{Edition}
use Rattle.heap_layout.specs.Heap.{IsValue}
use Rattle.rest_marks.specs.Growing.{roots_on, IsMoreFaultOf}
use Rattle.rest_marks.specs.Reached.{AreReached}
use Rattle.pinned_heap.specs.Collecting.{AreFewWith, RefusesPinned}
use Rattle.pinned_heap.proofs.Both.{refused-first, refused-pins, refused-roots, values-more}
use Rattle.pinned_heap.proofs.collecting.survey_with.Goals as goal

-- what is so of words in an edition is so of those that are the same
over : (P : Edition → List ℕ → Type 0) (e f : Edition) (ws vs : List ℕ) → e ≡ f → ws ≡ vs → P e ws → P f vs
over P e f ws vs same_edition same_words is = subst (λ (ed : Edition). P ed vs) same_edition (subst (λ (xs : List ℕ). P e xs) same_words is)

pub returns-in-Err-clause-fault : goal.returns-in-Err-clause-fault
returns-in-Err-clause-fault c =
    let few : AreFewWith c.args.edition c.args.words.now c.args.roots.now c.args.pins.now = (
      omega (arith, c.max_words.ensures, c.if-words-max_words.false),
      omega (arith, c.max_roots.ensures, c.if-roots-max_roots.false),
      omega (arith, c.max_roots-else-roots-max_roots.ensures, c.if-pins-max_roots.false),
    ) in
    λ most. refused-first c.args.edition c.args.words.now c.args.roots.now c.args.pins.now most c.in-Err.fault few c.in-Err.ensures.fault

pub returns-in-Err-also-clause-fault : goal.returns-in-Err-also-clause-fault
returns-in-Err-also-clause-fault c =
    let e = c.args.edition in
    let words = c.args.words.now in
    let roots = c.args.roots.now in
    let begun = c.in-Ok.begun in
    let fault = c.in-Err-also.refused.fault in
    let few : AreFewWith e words roots c.args.pins.now = (
      omega (arith, c.max_words.ensures, c.if-words-max_words.false),
      omega (arith, c.max_roots.ensures, c.if-roots-max_roots.false),
      omega (arith, c.max_roots-else-roots-max_roots.ensures, c.if-pins-max_roots.false),
    ) in
    let is = over (λ ed ws. IsMoreFaultOf ed ws begun.marks roots fault) begun.edition e begun.words words c.in-Ok.ensures.edition c.in-Ok.ensures.words c.in-Err-also.ensures.fault in
    λ most. refused-roots e words roots c.args.pins.now most fault few (subst (λ (ms : List ℕ). IsMoreFaultOf e words ms roots fault) c.in-Ok.ensures.none is)

pub returns-in-Err-also-2-clause-fault : goal.returns-in-Err-also-2-clause-fault
returns-in-Err-also-2-clause-fault c =
    let e = c.args.edition in
    let words = c.args.words.now in
    let roots = c.args.roots.now in
    let pins = c.args.pins.now in
    let begun = c.in-Ok.begun in
    let rooted = c.in-Ok-also.rooted in
    let fault = c.in-Err-also-2.refused.fault in
    let few : AreFewWith e words roots pins = (
      omega (arith, c.max_words.ensures, c.if-words-max_words.false),
      omega (arith, c.max_roots.ensures, c.if-roots-max_roots.false),
      omega (arith, c.max_roots-else-roots-max_roots.ensures, c.if-pins-max_roots.false),
    ) in
    let grown = over (λ ed ws. AreReached ed ws (roots_on begun.marks roots) rooted.marks) begun.edition e begun.words words c.in-Ok.ensures.edition c.in-Ok.ensures.words c.in-Ok-also.ensures.grown in
    let reached : AreReached e words roots rooted.marks = subst (λ (ms : List ℕ). AreReached e words (roots_on ms roots) rooted.marks) c.in-Ok.ensures.none grown in
    let is = over (λ ed ws. IsMoreFaultOf ed ws rooted.marks pins fault) rooted.edition e rooted.words words (c.in-Ok-also.ensures.edition ∙ c.in-Ok.ensures.edition)
    (c.in-Ok-also.ensures.words ∙ c.in-Ok.ensures.words) c.in-Err-also-2.ensures.fault in
    λ most. subst (RefusesPinned e words roots pins most) (sym c.pin_fault.ensures) (refused-pins e words roots pins most rooted.marks fault reached few is)

pub returns-clause-reached : goal.returns-clause-reached
returns-clause-reached c =
    let e = c.args.edition in
    let words = c.args.words.now in
    let roots = c.args.roots.now in
    let pins = c.args.pins.now in
    let begun = c.in-Ok.begun in
    let rooted = c.in-Ok-also.rooted in
    let edition_is = c.in-Ok-also.ensures.edition ∙ c.in-Ok.ensures.edition in
    let words_are = c.in-Ok-also.ensures.words ∙ c.in-Ok.ensures.words in
    let grown = over (λ ed ws. AreReached ed ws (roots_on begun.marks roots) rooted.marks) begun.edition e begun.words words c.in-Ok.ensures.edition c.in-Ok.ensures.words c.in-Ok-also.ensures.grown in
    let reached : AreReached e words roots rooted.marks = subst (λ (ms : List ℕ). AreReached e words (roots_on ms roots) rooted.marks) c.in-Ok.ensures.none grown in
    let back = over (λ ed ws. AreReached ed ws roots rooted.marks) e rooted.edition words rooted.words (sym edition_is) (sym words_are) reached in
    let all = over (λ ed ws. AreReached ed ws (roots ++ pins) c.in-Ok-also-2.grown.marks) rooted.edition e rooted.words words edition_is words_are (c.in-Ok-also-2.ensures.together roots back) in
    subst (AreReached e words (roots ++ pins)) (sym c.settle.ensures.marks ∙ c.release.ensures.found.marks) all

pub returns-clause-leads : goal.returns-clause-leads
returns-clause-leads c =
    let e = c.args.edition in
    let words = c.args.words.now in
    let roots = c.args.roots.now in
    let pins = c.args.pins.now in
    let begun = c.in-Ok.begun in
    let rooted = c.in-Ok-also.rooted in
    let edition_is = c.in-Ok-also.ensures.edition ∙ c.in-Ok.ensures.edition in
    let words_are = c.in-Ok-also.ensures.words ∙ c.in-Ok.ensures.words in
    let grown = over (λ ed ws. AreReached ed ws (roots_on begun.marks roots) rooted.marks) begun.edition e begun.words words c.in-Ok.ensures.edition c.in-Ok.ensures.words c.in-Ok-also.ensures.grown in
    let reached : AreReached e words roots rooted.marks = subst (λ (ms : List ℕ). AreReached e words (roots_on ms roots) rooted.marks) c.in-Ok.ensures.none grown in
    let back = over (λ ed ws. AreReached ed ws roots rooted.marks) e rooted.edition words rooted.words (sym edition_is) (sym words_are) reached in
    let all = over (λ ed ws. AreReached ed ws (roots ++ pins) c.in-Ok-also-2.grown.marks) rooted.edition e rooted.words words edition_is words_are (c.in-Ok-also-2.ensures.together roots back) in
    let marks_are = sym c.settle.ensures.marks ∙ c.release.ensures.found.marks in
    let leads : All (IsValue e rooted.marks) roots = subst (λ (ed : Edition). All (IsValue ed rooted.marks) roots) c.in-Ok.ensures.edition c.in-Ok-also.ensures.leads in
    subst (λ (ms : List ℕ). All (IsValue e ms) roots) marks_are (values-more e words roots pins rooted.marks c.in-Ok-also-2.grown.marks reached all leads)
