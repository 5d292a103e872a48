use Rattle.std.proofs.Common.{◌≡◌, ℕ, List, map, subst, ◌∙◌, ap}
use Rattle.heap_layout.specs.declared.edition.Edition.{Edition}
use Rattle.stopped_heap.specs.Growth.{IsFoundIn}
use Rattle.pinned_heap.specs.Pinned.{led_in, FoundAround}
use Rattle.pinned_heap.specs.Tables.{kept_at_place}
use Rattle.pinned_heap.proofs.Found.{all-led}
use Rattle.pinned_heap.proofs.pinned.Pinned.forward_weak.Goals as goal

pub settle_all-requires-clause-bases : goal.settle_all-requires-clause-bases
settle_all-requires-clause-bases c = rw (c.deref.ensures.value, c.deref-2.ensures.value) c.self.invariant.based

pub settle_all-requires-clause-same : goal.settle_all-requires-clause-same
settle_all-requires-clause-same c = c.self.invariant.same

pub returns : goal.returns
returns c =
    let inside = c.self.inside in
    let weak = c.args.weak.now in
    let after = c.settle_all.new.words in
    subst (λ (p : FoundAround). (words : List ℕ) → IsFoundIn p.found words → after ≡ map (led_in p words) weak) c.self.view_is
    (λ words is.
    c.settle_all.ensures
    ∙ ap (λ (xs : List ℕ). map (kept_at_place c.edition.result inside.heads.now inside.bits.now xs) weak) c.deref.ensures.value
    ∙ ap (λ (e : Edition). map (kept_at_place e inside.heads.now inside.bits.now inside.stays.items) weak) c.edition.ensures
    ∙ all-led inside.places.now words inside.heads.now inside.bits.now inside.counts.now inside.stays.items inside.bases.items inside.runs.items inside.end c.self.invariant is weak)
