-- What the calls of turns answer.
use Rattle.std.specs.Prelude.{◌≡◌, ◌≢◌, ℕ, ◌<◌, ◌≤◌, List}
use Rattle.rest_marks.specs.declared.fault.SlideFault.TheVariants as slide
use Rattle.first_touch.specs.Asked.{Asked, page_len, IsPageFault}
use Rattle.first_touch.specs.Seen.{TurnDesk, asked_of, page_id, IsPutBack, IsSeenBusy}
use Rattle.first_touch.specs.declared.turns.NotFilled.{NotFilled}
use Rattle.first_touch.specs.declared.turns.NotHad.{NotHad}
use Rattle.first_touch.specs.declared.turns.NotHad.TheVariants as refusal
use Rattle.first_touch.specs.declared.turns.TurnFault.{TurnFault}
use Rattle.first_touch.specs.declared.turns.TurnFault.TheVariants as fault

-- why page k was not had
abbrev pub IsNotHad : TurnDesk → ℕ → NotHad → Type 0
IsNotHad turns k refusal.NoSuchPage = turns.pages ≤ k
IsNotHad turns k (refusal.Home home) = (k < turns.pages) × (home ≡ page_id turns.id k)
IsNotHad turns k (refusal.Busy sight) = (k < turns.pages) × IsSeenBusy turns.id k sight

-- why page k was not built in a memory of so many words
abbrev pub IsTurnFault : Asked → ℕ → ℕ → TurnFault → Type 0
IsTurnFault asked k room (fault.OtherRoom has) = (has ≡ page_len asked k) × (room ≢ has)
IsTurnFault asked k room (fault.Slide why) = (room ≡ page_len asked k) × IsPageFault asked k why

-- page k was not built out of these words, in a memory of so many words, for this reason, and put back
pub record IsNotFilled (turns : TurnDesk) (words : List ℕ) (k room : ℕ) (refused : NotFilled) : Type 0 where
  pub fault : IsTurnFault (asked_of turns words) k room refused.fault
  pub back : IsPutBack turns.id k refused.sight

-- after these faults the memory is as it was; after the others some of its words are written
abbrev pub IsAsItWas : TurnFault → List ℕ → List ℕ → Type 0
IsAsItWas (fault.OtherRoom has) old new = new ≡ old
IsAsItWas (fault.Slide slide.OtherCount) old new = new ≡ old
IsAsItWas (fault.Slide why) old new = Unit {0}
