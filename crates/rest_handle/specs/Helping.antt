-- A job that marks a heap at rest, by threads of the caller's.
use Rattle.std.specs.Prelude.{◌≡◌, ℕ, ◌⊎◌, Bool, IsFalse, IsTrue, List, MatchOption, Option, None, Some}
use Rattle.mark_job.specs.Asked.{Asked, IsBeginFault, IsSmall}
use Rattle.rest_marks.specs.declared.fault.SurveyFault.{SurveyFault}
use Rattle.handle_base.specs.Answers.{bare, done, of_survey}
use Rattle.handle_base.specs.Statuses.{not_empty, still_shared, wrong_handle}
use Rattle.handle_base.specs.HandleKinds.{job_in, Fills}
use Rattle.handle_base.specs.Making.{ByEdition}
use Rattle.rest_handle.specs.Resting.{asked}
use Rattle.handle_base.specs.declared.answer.Answer.{Answer}
use Rattle.handle_base.specs.declared.kept.Kept.{Kept}

-- The handle keeps a job that marks this heap, which is not too large; or it keeps nothing, and the answer says why:
-- the heap is too large, or memory ran out.
abbrev pub Begins : Asked → Option Kept → Answer → Type 0
Begins heap now a =
    ((job_in now ≡ Some heap) × (a ≡ done 0) × IsSmall heap)
    ⊎ ((now ≡ None) × ((fault : SurveyFault) × (a ≡ of_survey fault) × IsBeginFault heap fault))

-- a job for a heap of edition n
abbrev pub BeginsJob : ℕ → List ℕ → List ℕ → Option Kept → Option Kept → Answer → Type 0
BeginsJob n words roots old new a =
    Fills 0 (λ now b. ByEdition n (λ edition. Begins (asked edition words roots) now b) now b) (Unit {0}) old new a

-- The answer of a helper: 0 if nothing is left to help with, 1 if it looked at some objects, 2 if others have those
-- that wait. Nothing is said of which.
abbrev pub Helps : Asked → Answer → Type 0
Helps heap a = (a ≡ done 0) ⊎ (a ≡ done 1) ⊎ (a ≡ done 2)

-- why a job is not finished, given whether the handle of the survey is full: another handle keeps a share of it
abbrev pub IsUnended : Bool → Kept → Answer → Type 0
IsUnended full k a =
    MatchOption (job_in (Some k)) (a ≡ bare wrong_handle 0) (λ heap. (IsTrue full × (a ≡ bare not_empty 1)) ⊎ (IsFalse full × (a ≡ bare still_shared 0)))
