-- How a slide is begun, or is not.
use Rattle.std.specs.Prelude.{◌≡◌, ◌≢◌, ℕ, ◌<◌, List, length}
use Rattle.rest_marks.specs.Places.{Found}
use Rattle.first_touch.specs.Asked.{IsCut}
use Rattle.first_touch.specs.Seen.{Desked, TurnDesk}
use Rattle.first_touch.specs.declared.not_begun.BeginFault.{BeginFault}
use Rattle.first_touch.specs.declared.not_begun.BeginFault.TheVariants as fault
use Rattle.first_touch.specs.declared.not_begun.NotBegun.{NotBegun}
use Rattle.first_touch.specs.declared.not_begun.NotBegunTurns.{NotBegunTurns}

-- a desk of these words, of which this was found, and of a memory of so many words, in pages of so many words
pub record IsBegun (found : Found) (words : List ℕ) (room size : ℕ) (desk : Desked) : Type 0 where
  pub asked : desk.asked ≡ record { found = found; words = words; size = size }
  pub fits : room ≡ length found.indices
  pub cut : IsCut (length found.indices) size desk.pages

-- turns of a heap of which this was found, in pages of so many words
pub record AreBegun (places : Found) (words : ℕ) (turns : TurnDesk) : Type 0 where
  pub found : turns.found ≡ places
  pub size : turns.size ≡ words
  pub cut : IsCut (length places.indices) words turns.pages

-- why no slide is begun of a heap of which this was found, into a memory of so many words, in pages of so many words
abbrev pub IsBeginFault : Found → ℕ → ℕ → BeginFault → Type 0
IsBeginFault found room size fault.NoSize = size ≡ 0
IsBeginFault found room size (fault.OtherRoom live) = (0 < size) × (live ≡ length found.indices) × (room ≢ live)
IsBeginFault found room size fault.OutOfMemory = (0 < size) × (room ≡ length found.indices)

-- what was found comes back, with the reason
pub record IsNotBegun (found : Found) (room size : ℕ) (refused : NotBegun) : Type 0 where
  pub back : refused.places ≡ found
  pub fault : IsBeginFault found room size refused.fault

-- the share of what was found comes back, with the reason
pub record AreNotBegun (found : Found) (size : ℕ) (refused : NotBegunTurns) : Type 0 where
  pub back : refused.places.value ≡ found
  pub fault : IsBeginFault found (length found.indices) size refused.fault
