use Rattle.std.proofs.Common.{◌≡◌, ℕ, ◌-◌, ◌≤◌, List, length, get_or, take, sym, ap, subst, ◌∙◌, arith, length-take}
use Rattle.std.proofs.lemmas.List.{get_or-take}
use Rattle.rest_marks.specs.Lanes.{Laned, AreLanedIn}
use Rattle.rest_marks.specs.Meeting.{AreMet}
use Rattle.stopped_heap.proofs.LanesJoined.{looked-wider, once-take}
use Rattle.stopped_heap.proofs.lane.Lane.give.Goals as goal

pub invariant_of-lane : goal.invariant_of-lane
invariant_of-lane c =
    let inside = c.self.inside in
    let queue = inside.queue.items in
    let keep = c.len-2.result - c.min-many.result in
    let heads = c.kept_bits-heads.result.items in
    let is : c.truncate.new.self.items ≡ take keep queue = c.truncate.ensures.items in
    let met : AreMet (take keep queue) heads = subst (λ (q : List ℕ). AreMet (take keep q) heads) c.deref-2.ensures.value c.kept_bits-heads.ensures.met in (
      c.self.invariant.0,
      omega (arith, c.kept_bits-heads.ensures.heads, c.self.invariant.1),
      c.self.invariant.2,
      c.self.invariant.3,
      rw is met,
      rw is (once-take inside.count keep queue c.self.invariant.5),
      omega (arith, ap (λ (xs : List ℕ). length xs) is, length-take keep queue, c.min-many.ensures, c.len.ensures, c.len-2.ensures, c.self.invariant.6),
    )

pub returns-clause-looked : goal.returns-clause-looked
returns-clause-looked c = λ words are.
    let inside = c.self.inside in
    let queue = inside.queue.items in
    let keep = c.len-2.result - c.min-many.result in
    let is : c.truncate.new.self.items ≡ take keep queue = c.truncate.ensures.items in
    let seen = subst (λ (s : Laned). AreLanedIn s words) (sym c.self.view_is) are in
    let kept : inside.next ≤ keep = omega (arith, c.min-many.ensures, c.len.ensures, c.len-2.ensures, c.self.invariant.6) in
    looked-wider inside.edition words queue c.truncate.new.self.items inside.next inside.known.items inside.known.items inside.bits.items
    (λ k lt. ap (λ (xs : List ℕ). get_or xs k 0) is ∙ get_or-take keep queue k 0 (omega (arith, lt, kept))) (λ i set. set) seen
