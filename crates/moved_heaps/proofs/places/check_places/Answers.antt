use Rattle.std.proofs.Common.{◌≡◌, ◌<◌, ◌+◌, ℕ, List, length, get_or, take, ap, ◌∙◌, arith, below_more}
use Rattle.heap_layout.specs.Heap.{live}
use Rattle.page_plan.specs.Sliding.{live_words}
use Rattle.page_plan.proofs.Objects.{live_words-part, live_words-next}
use Rattle.moved_heaps.specs.Moved.{place, size_at}
use Rattle.moved_heaps.proofs.places.check_places.Goals as goal

pub overflow_add-words : goal.overflow_add-words
overflow_add-words c =
    let few = live_words-part c.args.heap.now c.size_at.ensures.closed c.loop-k.k in
    let counted = c.loop-k.invariant.counted in
    omega arith

pub loop-k-preserved : goal.loop-k-preserved
loop-k-preserved c =
    let heap = c.args.heap.now in
    let k = c.loop-k.k in
    let many = ap length c.places-place-items.ensures in
    let lt : k < length heap.marks = omega arith in
    let size : c.from-size.result ≡ size_at heap k = c.from-size.ensures ∙ c.size_at.ensures.size in
    let at : c.from.result ≡ place c.args.moved.now k = c.from.ensures ∙ ap (λ (xs : List ℕ). get_or xs k 0) c.places-place-items.ensures in
    let long = ap length c.words.ensures in
    let next : live_words (take (k + 1) (live heap)) ≡ live_words (take k (live heap)) + size_at heap k = live_words-next heap.edition heap.words heap.marks k lt in
    record {
      inside = below_more _ _ c.loop-k.invariant.inside (omega (arith, size, at, long, c.if-from-size.false));
      counted = omega (arith, next, size, c.loop-k.invariant.counted);
    }
