use Rattle.std.proofs.Common.{◌≡◌, ℕ, List, get_or, length, ap, arith}
use Rattle.heap_layout.specs.Heap.{header_at}
use Rattle.heap_map.specs.Cells.{from_place, live_object}
use Rattle.heap_map.proofs.Standing.{adds_more, adds_then, adds_turn, all_turns, on_ok}
use Rattle.heap_map.proofs.Objects.{object_drawn}
use Rattle.heap_map.proofs.words.draw_from_words.Goals as goal

pub loop-number-preserved : goal.loop-number-preserved
loop-number-preserved c =
    let heap = c.args.heap.now in
    let k = c.loop-number.number in
    let at : c.from.result ≡ get_or heap.marks k 0 = cc in
    let head : c.header_at-header.result ≡ header_at heap.edition heap.words (get_or heap.marks k 0) = cc in
    let drawn = object_drawn c.args.grid.now.top heap k (get_or heap.marks k 0) c.of_number-colour.result.0 c.from.result c.header_at-header.result _ _ c.of_number-colour.ensures at head c.in_ok-draw_object.ensures in
    adds_turn k (λ (k : ℕ). live_object c.args.grid.now.top heap (from_place heap k) k) _ _ _ c.loop-number.invariant (adds_then _ _ _ _ _ c.in_ok-draw_unmarked.ensures drawn)

pub returns : goal.returns
returns c =
    let heap = c.args.heap.now in
    let of = λ (k : ℕ). live_object c.args.grid.now.top heap (from_place heap k) k in
    let all : c.loop-number.number ≡ length heap.marks = omega (arith, ap (λ (xs : List ℕ). length xs) c.marks-mark-items.ensures.marks) in
    on_ok _ _ _ (λ more. adds_more _ _ _ _ (all_turns c.loop-number.number (length heap.marks) of _ _ all c.loop-number.invariant) more) c.draw_unmarked-2.ensures
