-- What is read of a plan.
use Rattle.std.specs.Prelude.{◌≡◌, ℕ, ◌<◌, ◌≤◌, ◌⊎◌, List, map}
use Rattle.heap_layout.specs.Heap.{live, Heap}
use Rattle.page_plan.specs.Sliding as sliding
use Rattle.handle_base.specs.Answers.{bare, done}
use Rattle.handle_base.specs.Statuses.{no_such_page, out_of_memory}
use Rattle.handle_base.specs.declared.answer.Answer.{Answer}

-- the words of compacted page p, as nobody has written to them, or there is no memory; or there is no such page. The
-- buffer is as it was but in the first case
abbrev pub CopiesPlanned : ℕ → List ℕ → List ℕ → Heap → Answer → Type 0
CopiesPlanned p before after heap a =
    ((p < sliding.pages (live heap))
    × (((after ≡ sliding.page (live heap) p) × (a ≡ done 0)) ⊎ ((after ≡ before) × (a ≡ bare out_of_memory 0))))
    ⊎ ((sliding.pages (live heap) ≤ p) × (after ≡ before) × (a ≡ bare no_such_page p))

-- the to-space address of the marked object at this address; null and immediates stay, and any other word becomes null
abbrev pub led_by_plan : Heap → ℕ → ℕ
led_by_plan heap address = sliding.forwarded_value heap.edition (live heap) address

-- each of the addresses leads to where its object slides, or nowhere
abbrev pub ForwardsBy : List ℕ → List ℕ → Heap → Answer → Type 0
ForwardsBy before after heap a = (a ≡ done 0) × (after ≡ map (led_by_plan heap) before)
