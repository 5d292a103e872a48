-- Words that lead to objects which the roots reach.
use Rattle.std.specs.Prelude.{◌≡◌, ℕ, ◌<◌, List, length}
use Rattle.heap_layout.specs.Heap.{from_address}
use Rattle.rest_marks.specs.Reached.{LeadInto}
use Rattle.mark_job.specs.Asked.{Asked, IsMetIn}

-- if a word leads to an object, the roots reach it
abbrev pub LeadsIn : Asked → ℕ → Type 0
LeadsIn asked word = (i : ℕ) → i < length asked.words → word ≡ from_address i → IsMetIn asked i

-- these words lead to objects that the roots reach, and to no others
abbrev pub LeadIn : Asked → List ℕ → Type 0
LeadIn asked from = (i : ℕ) → LeadInto asked.words from i → IsMetIn asked i
