-- Where a marked object slides, by the tables and by the plan.
use Rattle.std.proofs.Common.{◌≡◌, ℕ, ◌+◌, ◌-◌, ◌^◌, ◌<◌, ◌==◌, Option, Some, None, IfSome, IsSome, length, get_or, take, refl, sym, ◌∙◌, arith}
use Rattle.std.proofs.lemmas.Bool.{or_right, eq-eqb}
use Rattle.std.proofs.lemmas.List.Folds.{list_any_at}
use Rattle.heap_layout.specs.Heap.{Heap, live, from_address, IsTarget, IsClosed}
use Rattle.mark_tables.specs.LiveWords.{live_indices, new_place}
use Rattle.page_plan.specs.Sliding.{forward, live_words}
use Rattle.page_plan.proofs.Marks.{index-of_mark, leads, mark-new_index}

-- the plan forwards the address of a mark by the live words below it
forward_mark : (heap : Heap) → IsClosed heap → (k : ℕ) → k < length heap.marks → forward (live heap) (2 ^ 32 + get_or heap.marks k 0) ≡ Some (2 ^ 33 + live_words (take k (live heap)))
forward_mark heap closed k lt =
    let reference = 2 ^ 32 + get_or heap.marks k 0 in
    let indices = live_indices (live heap) in
    let target : IsTarget heap.marks reference = or_right _ _ (list_any_at (λ (m : ℕ). from_address m == reference) heap.marks k 0 lt (eq-eqb _ _ refl)) in
    let index : reference - 2 ^ 32 ≡ get_or heap.marks k 0 = omega arith in
    let below = mark-new_index heap closed k lt indices refl (reference - 2 ^ 32) index in
    (leads heap closed reference target (λ zero_. omega (arith, zero_)) indices refl (live_words (take k (live heap))) (sym below)).to

-- A to-space index is known, and this is its address.
pub record IsPlaced (found address : Option ℕ) : Type 0 where
  pub known : IsSome found
  pub agree : IfSome found (λ place. address ≡ Some (2 ^ 33 + place))

placed_at : (below : ℕ) (found address : Option ℕ) → found ≡ Some below → address ≡ Some (2 ^ 33 + below) → IsPlaced found address
placed_at below (Some place) address is to = record { known = search; agree = cc }
placed_at below None address is to = cc

-- so it is of a mark
pub mark_placed : (heap : Heap) → IsClosed heap → (k : ℕ) → k < length heap.marks → (found address : Option ℕ) → found ≡ new_place (live_indices (live heap)) (get_or heap.marks k 0)
    → address ≡ forward (live heap) (2 ^ 32 + get_or heap.marks k 0) → IsPlaced found address
mark_placed heap closed k lt found address placed forwarded =
    placed_at (live_words (take k (live heap))) found address (placed ∙ index-of_mark heap closed k lt) (forwarded ∙ forward_mark heap closed k lt)
