-- Why a survey that keeps no words did not go on.
use Rattle.std.specs.Prelude.{◌≡◌, ◌≢◌, ◌<◌, List, ℕ, length}
use Rattle.stopped_heap.specs.Growth.{IsGrowthFaultOf, IsGrowthHeldFaultOf}
use Rattle.rest_marks.specs.Places.{Found}
use Rattle.stopped_heap.specs.declared.growing.NotGrown.{NotGrown}
use Rattle.stopped_heap.specs.declared.growth.NotGrowth.{NotGrowth}
use Rattle.stopped_heap.specs.declared.growth.NotGrowth.TheVariants.{WrongLength, Over}
use Rattle.rest_marks.specs.declared.fault.SurveyFault.TheVariants.{OutOfMemory}

-- it is over, its tables come back with the room that they had, and memory ran out only if that is for fewer words
pub record IsOver (found : Found) (words : List ℕ) (refused : NotGrown) : Type 0 where
  pub long : length words ≡ found.count
  pub back : refused.tables.room ≡ found.room
  pub lent : refused.fault ≡ OutOfMemory → found.room < found.count

-- There are not as many words as it has, and it comes back as it was; or there are, and it is over, by a fault of these
-- words and more roots.
abbrev pub IsNotGrown : Found → List ℕ → List ℕ → NotGrowth → Type 0
IsNotGrown found words more (WrongLength growth) = (growth ≡ found) × (length words ≢ found.count)
IsNotGrown found words more (Over refused) = IsOver found words refused × IsGrowthFaultOf found words more refused.fault

-- the same of ephemerons
abbrev pub IsNotHeld : Found → List ℕ → List ℕ → NotGrowth → Type 0
IsNotHeld found words ephemerons (WrongLength growth) = (growth ≡ found) × (length words ≢ found.count)
IsNotHeld found words ephemerons (Over refused) = IsOver found words refused × IsGrowthHeldFaultOf found words ephemerons refused.fault
