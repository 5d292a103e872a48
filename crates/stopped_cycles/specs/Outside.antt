-- The words that no object has at the end of a cycle.
use Rattle.std.specs.Prelude.{ℕ, ◌+◌, ◌<◌, ◌≤◌}
use Rattle.heap_layout.specs.Header.{header_of, size_of}
use Rattle.page_plan.specs.Sliding.{to_address}
use Rattle.comp_cycles.specs.Setup.{Setup}
use Rattle.comp_cycles.specs.Locks.{Journals}
use Rattle.comp_cycles.specs.Objects.{IsObjectAt}
use Rattle.comp_cycles.specs.NextHeap.{word_in}

-- no object has to-space word i: none that starts at it or before it reaches so far
abbrev pub IsOutside : Setup → Journals → ℕ → Type 0
IsOutside u journals i =
    (start : ℕ) → IsObjectAt u journals (to_address start) → start ≤ i → i < start + size_of (header_of u.heap.edition (word_in u journals start)) → ⊥
