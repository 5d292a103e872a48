-- The base of a page at the end is what a builder of the heap makes anew.
use Rattle.std.proofs.Common.{◌≡◌, ℕ, nat_lt, cond, replicate, ap, ◌∙◌, None, Some}
use Rattle.heap_layout.specs.Heap.{Heap, live}
use Rattle.page_plan.specs.Sliding as sliding
use Rattle.cell_steps.specs.Setup.{Setup}
use Rattle.cell_steps.specs.View.{Slot}
use Rattle.cell_steps.specs.Bases.{HasBaseIn}
use Rattle.cell_steps.specs.Closing.{HasBase}

-- a page has the base that the heap defines, if its setup is for this heap
pub has_base_in : (u : Setup) (heap : Heap) (p : ℕ) (slot : Slot) → u.heap ≡ heap → u.compacted ≡ sliding.pages (live heap) → HasBase u p slot → HasBaseIn heap p slot
has_base_in u heap p None same count base = tt
has_base_in u heap p (Some page) same count base =
    base ∙ ap (λ (n : ℕ). cond (nat_lt p n) (sliding.page (live u.heap) p) (replicate 64 0)) count
    ∙ ap (λ (h : Heap). cond (nat_lt p (sliding.pages (live heap))) (sliding.page (live h) p) (replicate 64 0)) same
