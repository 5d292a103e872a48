use Rattle.std.proofs.Common.{◌≡◌, ℕ, ◌<◌, List, get_or, length, ap, arith}
use Rattle.heap_layout.specs.Header.{size_of}
use Rattle.heap_layout.specs.Heap.{header_at, IsClosed}
use Rattle.heap_map.specs.Cells.{live_object, to_place}
use Rattle.heap_map.proofs.Standing.{adds_turn}
use Rattle.heap_map.proofs.Objects.{object_drawn, place_few, place_next}
use Rattle.heap_map.proofs.words.draw_slid_words.Goals as goal

pub loop-number-preserved : goal.loop-number-preserved
loop-number-preserved c =
    let heap = c.args.heap.now in
    let k = c.loop-number.number in
    let lt : k < length heap.marks = omega (arith, ap (λ (xs : List ℕ). length xs) c.marks-mark-items.ensures.marks) in
    let head : c.header_at-header.result ≡ header_at heap.edition heap.words (get_or heap.marks k 0) = cc in
    let drawn = object_drawn c.args.grid.now.top heap k (to_place heap k) c.of_number-colour.result.0 c.loop-number.place c.header_at-header.result _ _ c.of_number-colour.ensures c.loop-number.invariant.next head c.in_ok-draw_object.ensures in
    record {
      drawn = adds_turn k (λ (k : ℕ). live_object c.args.grid.now.top heap (to_place heap k) k) _ _ _ c.loop-number.invariant.drawn drawn;
      next = omega (arith, place_next heap k lt, ap size_of head, c.loop-number.invariant.next);
    }

pub draw_object-requires-clause-few : goal.draw_object-requires-clause-few
draw_object-requires-clause-few c =
    let closed : IsClosed c.args.heap.now = c.marks-mark-items.ensures.closed in
    omega (arith, place_few c.args.heap.now closed c.loop-number.number, c.loop-number.invariant.next)

pub overflow_add-place : goal.overflow_add-place
overflow_add-place c =
    let closed : IsClosed c.args.heap.now = c.marks-mark-items.ensures.closed in
    omega (arith, place_few c.args.heap.now closed c.loop-number.number, c.loop-number.invariant.next)
