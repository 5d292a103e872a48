-- A heap at rest is surveyed with ephemerons and guardians.
use Rattle.std.specs.Prelude.{◌≡◌, ℕ, ◌⊎◌, List, [], ◌++◌, All, length, Option, None, Some}
use Rattle.heap_layout.specs.Heap.{IsValue}
use Rattle.mark_job.specs.Asked.{Asked}
use Rattle.stopped_heap.specs.Guarded.{AreHeldFrom, AreParted, IsGuardedFaultOf}
use Rattle.rest_marks.specs.Places.{Found, IsFoundOf}
use Rattle.rest_marks.specs.declared.fault.SurveyFault.{SurveyFault}
use Rattle.handle_base.specs.Answers.{done, of_survey}
use Rattle.handle_base.specs.HandleKinds.{survey_in, Fills}
use Rattle.rest_handle.specs.Resting.{asked, OfEdition}
use Rattle.handle_base.specs.declared.answer.Answer.{Answer}
use Rattle.handle_base.specs.declared.kept.Kept.{Kept}

-- This was found of the heap: its marked objects are those that its roots, the ephemerons and the guarded words hold;
-- and each of its roots and of the guarded words leads to one of them, or is null or an immediate.
pub record IsGuardedOf (heap : Asked) (ephemerons guarded : List ℕ) (found : Found) : Type 0 where
  pub held : AreHeldFrom heap.edition heap.words (heap.roots ++ guarded) ephemerons found.marks
  pub leads : All (IsValue heap.edition found.marks) (heap.roots ++ guarded)
  pub places : IsFoundOf found (record { edition = heap.edition; words = heap.words; marks = found.marks; roots = [] })

-- The handle keeps what is held, and where it slides; the guarded words that were lost come first then, and `lost` is
-- their number; the answer has the number of live words. Or it keeps nothing, the guarded words and the number are as
-- they were, and the answer says why.
abbrev pub Guards : Asked → List ℕ → List ℕ → List ℕ → ℕ → ℕ → Option Kept → Answer → Type 0
Guards heap ephemerons before after was lost now a =
    ((found : Found) × (survey_in now ≡ Some found) × IsGuardedOf heap ephemerons before found × AreParted heap.edition heap.words heap.roots ephemerons before after lost
    × (a ≡ done (length found.indices)))
    ⊎ ((now ≡ None) × (after ≡ before) × (lost ≡ was)
    × ((fault : SurveyFault) × (a ≡ of_survey fault) × IsGuardedFaultOf heap.edition heap.words heap.roots ephemerons before fault))

-- a survey of a heap of edition n with ephemerons and guarded words
abbrev pub SurveysGuarded : ℕ → List ℕ → List ℕ → List ℕ → List ℕ → List ℕ → ℕ → ℕ → Option Kept → Option Kept → Answer → Type 0
SurveysGuarded n words roots ephemerons before after was lost old new a =
    Fills 0
    (λ now b. OfEdition n (λ edition. Guards (asked edition words roots) ephemerons before after was lost now b) ((now ≡ None) × (after ≡ before) × (lost ≡ was)) b)
    ((after ≡ before) × (lost ≡ was)) old new a
