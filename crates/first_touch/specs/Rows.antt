-- The pages of a memory, as they wait at the beginning.
use Rattle.std.specs.Prelude.{◌≡◌, ℕ, ◌<◌, List, length, Some}
use Rattle.std.specs.Borrow.{MutBor}
use mathlib.Core.Option.{some}
use lib.ListN.{get_elem?}
use Rattle.first_touch.specs.Asked.{Asked, page_len}
use Rattle.first_touch.specs.Pages.{Slot}

-- each row is a page of as many words as slide there
abbrev pub AreRows : Asked → List Slot → Type 0
AreRows asked rows =
    (k : ℕ) → k < length rows
    → (page : MutBor (List ℕ)) × (get_elem? rows k ≡ some (Some page)) × (length page.now ≡ page_len asked k)
