-- Pages without objects.
use Rattle.std.specs.Prelude.{◌≡◌, ℕ, ◌<◌, None}
use Rattle.comp_history.specs.Setup.{Setup}
use Rattle.comp_history.specs.Lawful.{kind_at}
use Rattle.comp_history.specs.Locks.{Journals}
use Rattle.comp_history.specs.Objects.{word_on}

-- page p has no object: each of its words is 0, and of no kind
pub record IsBlank (u : Setup) (journals : Journals) (p : ℕ) : Type 0 where
  pub kinds : (offset : ℕ) → offset < 64 → kind_at u p (journals p) offset ≡ None
  pub words : (offset : ℕ) → offset < 64 → word_on u journals p offset ≡ 0
