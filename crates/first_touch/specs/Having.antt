-- Who has a page.
use Rattle.std.specs.Prelude.{◌≡◌, ℕ, [], ◌∷◌, None}
use Rattle.atomic_table.specs.Seated.{TableId}
use Rattle.atomic_table.specs.Table.{Me}
use Rattle.first_touch.specs.Asked.{Asked}
use Rattle.first_touch.specs.Pages.{Slot, at_page}
use Rattle.first_touch.specs.declared.built.Taken.{Taken}
use Rattle.first_touch.specs.declared.view.View.{View}

-- it has page k of the table of this name, whose slot is empty
pub record HasPage (asked : Asked) (id : TableId) (k : ℕ) (taken : Taken) : Type 0 where
  pub same : taken.seat.table_id ≡ id
  pub number : taken.k ≡ k
  pub has : taken.seat.me ≡ (at_page asked k 1 0, (k, None) ∷ [])

-- who may take page k: it has no page
pub record IsFree (asked : Asked) (k : ℕ) (me : Me Slot View) : Type 0 where
  pub word : ℕ
  pub free : me ≡ (at_page asked k 0 word, [])
