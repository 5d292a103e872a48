-- All pages of a table are home.
use Rattle.std.specs.Prelude.{◌≡◌, ℕ, ◌≤◌, Option, MatchOption}
use Rattle.atomic_table.specs.Seated.{TableId}
use Rattle.atomic_table.specs.declared.shared.Seat.{Seat}
use Rattle.first_touch.specs.Known.{Known}

module _ {S V : Type 0} (known : V → Known) where
  -- a seat knows that the first n pages of the table of this name are home
  pub record KnowsBelow (id : TableId) (n : ℕ) (seat : Seat S V) : Type 0 where
    pub same : seat.table_id ≡ id
    pub below : n ≤ (known seat.me.0).below

  -- a seat knows that all pages of the table of this name are home, or there are none
  abbrev pub AreAllHome : TableId → Option (Seat S V) → Type 0
  AreAllHome id seat = MatchOption seat (id.words ≡ 0) (KnowsBelow id id.words)
