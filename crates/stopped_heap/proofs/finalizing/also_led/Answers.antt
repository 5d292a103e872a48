use Rattle.std.proofs.Common.{ℕ, ◌≤◌, List, [], ◌++◌, filter, length, map, refl, sym, ap, subst, ◌∙◌, arith}
use Rattle.heap_layout.specs.Heap.{from_address}
use Rattle.heap_layout.specs.Limits.{most_words, most_roots}
use Rattle.heap_layout.proofs.Bounds.{words_most}
use Rattle.rest_marks.specs.Growing.{roots_on, IsMoreFaultOf}
use Rattle.stopped_heap.specs.Guarded.{is_lost}
use Rattle.rest_marks.specs.Meeting.{AllLead}
use Rattle.stopped_heap.specs.Ordered.{references_of_all}
use Rattle.rest_marks.specs.Reached.{AreReached, IsHeapFaultOf}
use Rattle.rest_marks.specs.Surveys.{Surveyed}
use Rattle.stopped_heap.proofs.Guardians.{carried}
use Rattle.stopped_heap.proofs.Waiting.{fault-led, self-reached}
use Rattle.stopped_heap.proofs.finalizing.also_led.Goals as goal

pub references_of_lost-requires-clause-edition : goal.references_of_lost-requires-clause-edition
references_of_lost-requires-clause-edition c = ap (λ (s : Surveyed). s.edition) (sym c.growing.view_is)

pub references_of_lost-requires-clause-few : goal.references_of_lost-requires-clause-few
references_of_lost-requires-clause-few c = omega (arith, c.growing.invariant.0.begun.few, words_most c.growing.inside.edition)

pub also_all-requires-clause-edition : goal.also_all-requires-clause-edition
also_all-requires-clause-edition c = ap (λ (s : Surveyed). s.edition) (sym c.growing.view_is)

pub also_all-requires-clause-words : goal.also_all-requires-clause-words
also_all-requires-clause-words c = ap (λ (s : Surveyed). s.words) (sym c.growing.view_is)

pub also_all-requires-clause-lead : goal.also_all-requires-clause-lead
also_all-requires-clause-lead c =
    let inside = c.growing.inside in
    subst (AllLead inside.edition (length inside.words.now)) (sym c.deref.ensures.value) c.in-Ok.ensures.lead

pub returns-in-Err-clause-fault : goal.returns-in-Err-clause-fault
returns-in-Err-clause-fault c =
    let g = c.args.growing in
    let inside = c.growing.inside in
    let waiting = c.args.waiting.now in
    subst (IsMoreFaultOf g.edition g.words g.marks waiting) (sym c.refuse.ensures.fault)
    (carried (λ edition words _. IsMoreFaultOf edition words g.marks waiting c.in-Err.fault) g.edition inside.edition g.words inside.words.now [] []
    (ap (λ (s : Surveyed). s.edition) c.growing.view_is) (ap (λ (s : Surveyed). s.words) c.growing.view_is) refl c.in-Err.ensures.fault)

pub returns-in-Ok-also_all-clause-led : goal.returns-in-Ok-also_all-clause-led
returns-in-Ok-also_all-clause-led c =
    let g = c.args.growing in
    let inside = c.growing.inside in
    let e = inside.edition in
    let w = inside.words.now in
    let waiting = c.args.waiting.now in
    let after = c.in-Ok-also_all.led.marks in
    let self : AreReached e w (map from_address g.marks) g.marks =
    subst (λ (marks : List ℕ). AreReached e w (map from_address marks) marks) (ap (λ (s : Surveyed). s.marks) c.growing.view_is)
    (self-reached e w inside.queue.items inside.heads.items inside.bits.items c.growing.invariant.0.begun) in
    let taken = c.deref.ensures.value ∙ c.in-Ok.ensures.all in
    carried (λ edition words _. AreReached edition words (roots_on g.marks (references_of_all edition words (filter (is_lost edition g.marks) waiting))) after) g.edition e g.words w [] []
    (ap (λ (s : Surveyed). s.edition) c.growing.view_is) (ap (λ (s : Surveyed). s.words) c.growing.view_is) refl
    (subst (λ (xs : List ℕ). AreReached e w (map from_address g.marks ++ xs) after) taken (c.in-Ok-also_all.ensures.grown (map from_address g.marks) self))

pub returns-in-Ok-also_all-clause-few : goal.returns-in-Ok-also_all-clause-few
returns-in-Ok-also_all-clause-few c =
    let g = c.args.growing in
    let inside = c.growing.inside in
    carried (λ edition words _. length c.args.waiting.now ≤ most_roots edition) g.edition inside.edition g.words inside.words.now [] []
    (ap (λ (s : Surveyed). s.edition) c.growing.view_is) (ap (λ (s : Surveyed). s.words) c.growing.view_is) refl c.in-Ok.ensures.few

pub returns-in-Ok-also_all-clause-many : goal.returns-in-Ok-also_all-clause-many
returns-in-Ok-also_all-clause-many c =
    let g = c.args.growing in
    let inside = c.growing.inside in
    carried (λ edition words _. length words ≤ most_words edition) g.edition inside.edition g.words inside.words.now [] []
    (ap (λ (s : Surveyed). s.edition) c.growing.view_is) (ap (λ (s : Surveyed). s.words) c.growing.view_is) refl c.growing.invariant.0.begun.few

pub returns-in-Ok-also_all-clause-waiting : goal.returns-in-Ok-also_all-clause-waiting
returns-in-Ok-also_all-clause-waiting c =
    let g = c.args.growing in
    let inside = c.growing.inside in
    carried (λ edition words _. AllLead edition (length words) c.args.waiting.now) g.edition inside.edition g.words inside.words.now [] []
    (ap (λ (s : Surveyed). s.edition) c.growing.view_is) (ap (λ (s : Surveyed). s.words) c.growing.view_is) refl c.in-Ok.ensures.waiting

pub returns-clause-fault : goal.returns-clause-fault
returns-clause-fault c =
    let g = c.args.growing in
    let inside = c.growing.inside in
    let e = inside.edition in
    let w = inside.words.now in
    let waiting = c.args.waiting.now in
    let fault = c.in-Err-also_all.refused.fault in
    let self : AreReached e w (map from_address g.marks) g.marks =
    subst (λ (marks : List ℕ). AreReached e w (map from_address marks) marks) (ap (λ (s : Surveyed). s.marks) c.growing.view_is)
    (self-reached e w inside.queue.items inside.heads.items inside.bits.items c.growing.invariant.0.begun) in
    let taken = c.deref.ensures.value ∙ c.in-Ok.ensures.all in
    carried (λ edition words _. IsMoreFaultOf edition words g.marks waiting fault) g.edition e g.words w [] []
    (ap (λ (s : Surveyed). s.edition) c.growing.view_is) (ap (λ (s : Surveyed). s.words) c.growing.view_is) refl
    (fault-led e w g.marks waiting fault c.in-Ok.ensures.few c.in-Ok.ensures.waiting
    (subst (λ (xs : List ℕ). IsHeapFaultOf e w (map from_address g.marks ++ xs) fault) taken (c.in-Err-also_all.ensures.fault (map from_address g.marks) self)) c.in-Err-also_all.ensures.never)
