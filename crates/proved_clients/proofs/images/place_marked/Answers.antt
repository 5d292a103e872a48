use Rattle.std.proofs.Common.{◌≡◌, ◌+◌, ◌^◌, ◌<◌, ◌∙◌, ℕ, List, length, get_or, ap, subst}
use Rattle.heap_layout.specs.Heap.{Heap, live}
use Rattle.mark_tables.specs.LiveWords.{new_place}
use Rattle.page_plan.specs.Sliding.{forward}
use Rattle.proved_clients.proofs.Marked.{mark_placed}
use Rattle.proved_clients.proofs.images.place_marked.Goals as goal

pub returns : goal.returns
returns g c =
    let heap = c.in-Ok.heap in
    let k = c.args.number in
    let inside : k < length heap.marks = subst (λ (xs : List ℕ). k < length xs) c.marks.ensures.marks c.if-number-marks.false in
    let index : c.from-index.result ≡ get_or heap.marks k 0 = c.from-index.ensures ∙ ap (λ (xs : List ℕ). get_or xs k 0) c.marks-2.ensures.marks in
    let place = c.new_place.ensures ∙ ap (λ (xs : List ℕ). new_place xs c.from-index.result) c.in-Ok-build.ensures ∙ ap (new_place _) index in
    let address = c.forward.ensures ∙ ap (λ (h : Heap). forward (live h) (2 ^ 32 + c.from-index.result)) c.in-Ok-new.ensures ∙ ap (λ (i : ℕ). forward (live heap) (2 ^ 32 + i)) index in
    let both = mark_placed heap c.marks.ensures.closed k inside c.new_place.result c.forward.result place address in
    record { known = both.known; agree = both.agree }
