use Rattle.std.proofs.Common.{◌≡◌, ℕ, List, ◌++◌, length, take, refl, sym, ap, subst, ◌∙◌, arith}
use Rattle.rest_marks.specs.Meeting.{AllLead}
use Rattle.stopped_heap.specs.Ordered.{references_of_all}
use Rattle.stopped_heap.proofs.Waiting.{lead-append, references-more}
use Rattle.stopped_heap.proofs.finalizing.references_of.Goals as goal

pub loop-k-init : goal.loop-k-init
loop-k-init c = rw c.new-all.ensures.items (record { items = refl; lead = λ k lt. absurd (omega (arith, lt)) })

pub references_at-requires-clause-address : goal.references_at-requires-clause-address
references_at-requires-clause-address c = c.requires.addresses c.loop-k.k (omega arith)

pub returns-in-Err-clause-fault : goal.returns-in-Err-clause-fault
returns-in-Err-clause-fault c = λ roots each. c.in-Err.ensures.fault roots (each c.loop-k.k (omega arith))

pub loop-k-preserved : goal.loop-k-preserved
loop-k-preserved c =
    let e = c.args.edition in
    let words = c.args.words.now in
    let waiting = c.args.waiting.now in
    let k = c.loop-k.k in
    let inv = c.loop-k.invariant in
    let found = c.in-Ok.found.now in
    let items : c.extend_from_slice.new.self.items ≡ c.loop-k.all.items ++ found = c.in_default.ensures.items in
    record {
      items =
          items ∙ ap (λ (xs : List ℕ). xs ++ found) inv.items ∙ ap (λ (xs : List ℕ). references_of_all e words (take k waiting) ++ xs) c.in-Ok.ensures.references
          ∙ sym (references-more e words waiting k (omega arith));
      lead = subst (AllLead e (length words)) (sym items) (lead-append e (length words) c.loop-k.all.items found inv.lead c.in-Ok.ensures.lead);
    }
