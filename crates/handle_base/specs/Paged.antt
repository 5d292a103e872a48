-- What a handle has of the pages of a slide.
use Rattle.std.specs.Prelude.{◌≡◌, ℕ, Option, None, Some}
use Rattle.first_touch.specs.Seen.{TurnDesk}
use Rattle.handle_base.specs.declared.pages.Has.{Has}
use Rattle.handle_base.specs.declared.pages.Has.TheVariants as has
use Rattle.handle_base.specs.declared.pages.Paging.{Paging}

-- the turns of a slide, and what one handle has of them
pub record Paged : Type 0 where
  pub turns : TurnDesk
  pub has : Has

abbrev pub paged : Paging → Paged
paged pages = record { turns = pages.turns.value; has = pages.has }

-- of these turns a handle has this
abbrev pub having : TurnDesk → Has → Paged
having turns what = record { turns = turns; has = what }

-- the page whose turn it is, built or not; or none
abbrev pub turn_in : Has → Option ℕ
turn_in has.Nothing = None
turn_in (has.Sight sight) = None
turn_in (has.Home home) = None
turn_in (has.Turn turn) = Some turn.page
turn_in (has.Filled filled) = Some filled.page

-- a turn that a handle has is one of its own turns
abbrev pub IsOwnIn : TurnDesk → Has → Type 0
IsOwnIn turns has.Nothing = Unit {0}
IsOwnIn turns (has.Sight sight) = Unit {0}
IsOwnIn turns (has.Home home) = Unit {0}
IsOwnIn turns (has.Turn turn) = turn.desk ≡ turns.id
IsOwnIn turns (has.Filled filled) = filled.desk ≡ turns.id

abbrev pub IsOwn : Paged → Type 0
IsOwn pages = IsOwnIn pages.turns pages.has
