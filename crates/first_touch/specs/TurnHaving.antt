-- Who has a page, and who knows that it is home.
use Rattle.std.specs.Prelude.{◌≡◌, ℕ, ◌<◌, []}
use Rattle.atomic_table.specs.Seated.{TableId}
use Rattle.atomic_table.specs.Table.{Me}
use Rattle.atomic_table.specs.declared.shared.Seat.{Seat}
use Rattle.first_touch.specs.Turning.{at_page}
use Rattle.first_touch.specs.declared.turn_view.TurnView.{TurnView}

-- it has page k of the table of this name, alone
pub record HasTurn (id : TableId) (k : ℕ) (seat : Seat (Unit {0}) TurnView) : Type 0 where
  pub same : seat.table_id ≡ id
  pub has : seat.me ≡ (at_page k 1 0, [])

-- it has page k of its table, alone
pub record IsTurn (k : ℕ) (seat : Seat (Unit {0}) TurnView) : Type 0 where
  pub inside : k < seat.table_id.words
  pub has : HasTurn seat.table_id k seat

-- it knows that page k of the table of this name is home
pub record KnowsTurn (id : TableId) (k : ℕ) (seat : Seat (Unit {0}) TurnView) : Type 0 where
  pub same : seat.table_id ≡ id
  pub knows : seat.me.0 ≡ at_page k 2 2

-- who may take page k: it has no page
pub record IsFree (k : ℕ) (me : Me (Unit {0}) TurnView) : Type 0 where
  pub word : ℕ
  pub free : me ≡ (at_page k 0 word, [])
