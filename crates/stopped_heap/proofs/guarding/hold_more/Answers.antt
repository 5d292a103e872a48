use Rattle.std.proofs.Common.{ℕ, List, get_or, refl, sym, subst}
use Rattle.heap_layout.specs.declared.edition.Edition.{Edition}
use Rattle.heap_layout.specs.Heap.{from_address}
use Rattle.stopped_heap.specs.Ephemerons.{held_mark, AreHeld, IsHeldFaultOf}
use Rattle.rest_marks.specs.Growing.{roots_on}
use Rattle.stopped_heap.specs.Guarded.{IsOnFaultOf}
use Rattle.stopped_heap.proofs.Guardians.{fault-reached, fault-valued, held-rooted, value-more}
use Rattle.rest_marks.proofs.Reaching.{reached-inside}
use Rattle.stopped_heap.proofs.guarding.hold_more.Goals as goal

pub returns-in-Err-clause-fault : goal.returns-in-Err-clause-fault
returns-in-Err-clause-fault c =
    let g = c.args.growing in
    fault-reached g.edition g.words g.marks c.args.more.now c.args.ephemerons.now c.args.first c.in-Err.refused.fault c.in-Err.ensures.fault

pub returns-in-Ok-also_values-clause-held : goal.returns-in-Ok-also_values-clause-held
returns-in-Ok-also_values-clause-held c =
    let g = c.args.growing in
    let reached = c.in-Ok.reached in
    let marks = c.in-Ok-also_values.held.marks in
    let ephemerons = c.args.ephemerons.now in
    held-rooted g.edition g.words (roots_on g.marks c.args.more.now) reached.marks ephemerons marks c.in-Ok.ensures.grown
    (subst (λ (edition : Edition). AreHeld edition g.words reached.marks ephemerons marks) c.in-Ok.ensures.edition
    (subst (λ (words : List ℕ). AreHeld reached.edition words reached.marks ephemerons marks) c.in-Ok.ensures.words c.in-Ok-also_values.ensures.held))

pub returns-in-Ok-also_values-clause-leads : goal.returns-in-Ok-also_values-clause-leads
returns-in-Ok-also_values-clause-leads c =
    let g = c.args.growing in
    let reached = c.in-Ok.reached in
    let marks = c.in-Ok-also_values.held.marks in
    let ephemerons = c.args.ephemerons.now in
    let held : AreHeld reached.edition g.words reached.marks ephemerons marks =
    subst (λ (words : List ℕ). AreHeld reached.edition words reached.marks ephemerons marks) c.in-Ok.ensures.words c.in-Ok-also_values.ensures.held in
    λ k d lt.
    value-more g.edition reached.marks marks
    (λ i there. held.all i (reached-inside g.edition g.words (roots_on g.marks c.args.more.now) i (c.in-Ok.ensures.grown.reached i there)) (held_mark (from_address i) i there refl))
    (get_or c.args.more.now k d) (c.in-Ok.ensures.leads k d lt)

pub returns-in-Err-also_values-clause-fault : goal.returns-in-Err-also_values-clause-fault
returns-in-Err-also_values-clause-fault c =
    let g = c.args.growing in
    let reached = c.in-Ok.reached in
    let fault = c.in-Err-also_values.refused.fault in
    let ephemerons = c.args.ephemerons.now in
    subst (IsOnFaultOf g.edition g.words g.marks c.args.more.now ephemerons c.args.first) (sym c.number_from.ensures)
    (fault-valued g.edition g.words g.marks c.args.more.now reached.marks ephemerons c.args.first fault c.in-Ok.ensures.grown
    (subst (λ (edition : Edition). IsHeldFaultOf edition g.words reached.marks ephemerons fault) c.in-Ok.ensures.edition
    (subst (λ (words : List ℕ). IsHeldFaultOf reached.edition words reached.marks ephemerons fault) c.in-Ok.ensures.words c.in-Err-also_values.ensures.fault)))
