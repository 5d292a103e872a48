-- The heap that a job marks.
use Rattle.std.specs.Prelude.{◌≡◌, ℕ, ◌⊎◌, List, All}
use Rattle.heap_layout.specs.declared.edition.Edition.{Edition}
use Rattle.rest_marks.specs.Reached.{AreFew, AreReached, IsFaultOf, IsReachedFrom}
use Rattle.rest_marks.specs.Places.{Found, IsFoundOf}
use Rattle.rest_marks.specs.declared.fault.SurveyFault.{SurveyFault}
use Rattle.rest_marks.specs.declared.fault.SurveyFault.TheVariants.{TooLarge, OutOfMemory}

-- the heap whose words and roots these are
pub record Asked : Type 0 where
  pub edition : Edition
  pub words : List ℕ
  pub roots : List ℕ

-- it has not more words and roots than its edition allows
abbrev pub IsSmall : Asked → Type 0
IsSmall asked = AreFew asked.edition asked.words asked.roots

-- Why no job begins for it: it is too large; or it is not, and memory ran out. Nothing else is looked at.
abbrev pub IsBeginFault : Asked → SurveyFault → Type 0
IsBeginFault asked fault = ((fault ≡ TooLarge) ⊎ (fault ≡ OutOfMemory)) × IsFaultOf asked.edition asked.words asked.roots fault

-- its roots reach the object at index i
abbrev pub IsMetIn : Asked → ℕ → Type 0
IsMetIn asked i = IsReachedFrom asked.edition asked.words asked.roots i

-- its roots reach all these objects
abbrev pub AreMetIn : Asked → List ℕ → Type 0
AreMetIn asked objects = All (IsMetIn asked) objects

-- This was found of the heap: its marked objects are those that the roots reach.
pub record IsMarkedOf (asked : Asked) (found : Found) : Type 0 where
  pub reached : AreReached asked.edition asked.words asked.roots found.marks
  pub places : IsFoundOf found (record { edition = asked.edition; words = asked.words; marks = found.marks; roots = asked.roots })
