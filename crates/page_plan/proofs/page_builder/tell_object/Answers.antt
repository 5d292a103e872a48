use Rattle.std.proofs.Common.{◌≡◌, ◌+◌, ◌<◌, ◌∙◌, length, get_or, take, inl, inr, sym, ap, arith}
use Rattle.heap_layout.specs.Header.{size_of}
use Rattle.std.proofs.lemmas.Bool.{cases_lt}
use Rattle.heap_layout.specs.Heap.{header_at, live, IsClosed}
use Rattle.page_plan.specs.Sliding.{kind, live_words}
use Rattle.page_plan.proofs.Objects.{live_words-few}
use Rattle.page_plan.proofs.Shapes.{kind-told}
use Rattle.page_plan.proofs.Telling.{told-more}
use Rattle.page_plan.proofs.page_builder.tell_object.Goals as goal

pub skip-after-requires-clause-small : goal.skip-after-requires-clause-small
skip-after-requires-clause-small c =
    let heap = c.args.plan.now in
    let closed : IsClosed heap = rw c.heap.ensures at c.marks.ensures.closed in
    omega (arith, live_words-few heap closed)

pub loop-next-preserved : goal.loop-next-preserved
loop-next-preserved c =
    let heap = c.args.plan.now in
    let i = c.loop-next.invariant in
    let next = c.loop-next.next in
    let marks : c.marks.result.now ≡ heap.marks = cc in
    let closed : IsClosed heap = rw c.heap.ensures at c.marks.ensures.closed in
    let k = c.args.cursor.number in
    let lt : k < length heap.marks = elim (cases_lt k (length heap.marks)) [
      | inl lt ↦ lt
      | inr le ↦ absurd (omega (arith, c.requires.at.past le, c.requires.some, c.requires.known))
    ] in
    let header : c.header_at-header.result ≡ header_at heap.edition heap.words (get_or heap.marks k 0) = cc in
    let inside = c.skip-after.ensures.inside in
    let within : next.within < size_of (header_at heap.edition heap.words (get_or heap.marks k 0)) = omega (arith, inside, i.within, i.further, c.loop-next-test.true) in
    let of = c.kind_of-kind.ensures c.header_at-header.result c.first-weak_from.ensures c.first-data_from.ensures (rw header within) in
    let told = kind-told heap closed k next.within c.header_at-header.result c.kind_of-kind.result lt header within of in
    let stands = c.requires.at.at lt in
    let there : live_words (take k (live heap)) + next.within ≡ next.new_index = omega (arith, stands, i.within, i.further) in
    record {
      number = i.number;
      further = omega (arith, i.further);
      before = omega (arith, c.loop-next-test.true);
      within = omega (arith, i.within, i.further);
      told = told-more (live heap) c.args.begin next.new_index c.loop-next.kinds c.kind_of-kind.result (omega (arith, i.further, c.requires.begun))
          (omega (arith, c.loop-next-test.true, c.skip-after.ensures.within, c.requires.room)) (sym (ap (kind (live heap)) there) ∙ told) i.told;
    }
