-- Collections and surveys by tables that were made before.
use Rattle.std.specs.Prelude.{◌≡◌, ℕ, ◌≤◌, ◌⊎◌, List, length, Option, None, Some}
use Rattle.heap_layout.specs.Versions.{version_of}
use Rattle.heap_layout.specs.declared.edition.Edition.{Edition}
use Rattle.mark_job.specs.Asked.{Asked, IsMarkedOf}
use Rattle.stopped_heap.specs.Collecting.{HasCollected}
use Rattle.rest_marks.specs.Places.{Found}
use Rattle.rest_marks.specs.Reached.{IsFaultOf}
use Rattle.stopped_heap.specs.Tables.{IsLentFaultOf, RefusesLent, Reserved}
use Rattle.rest_marks.specs.declared.fault.CollectLentFault.{CollectLentFault}
use Rattle.rest_marks.specs.declared.fault.LentFault.{LentFault}
use Rattle.rest_marks.specs.declared.fault.SurveyFault.TheVariants as survey
use Rattle.handle_base.specs.Answers.{bare, done, of_collect_lent, of_lent, of_survey}
use Rattle.handle_base.specs.Statuses.{out_of_memory, still_shared}
use Rattle.handle_base.specs.HandleKinds.{survey_in, tables_in}
use Rattle.rest_handle.specs.Resting.{asked, OfEdition}
use Rattle.handle_base.specs.declared.answer.Answer.{Answer}
use Rattle.handle_base.specs.declared.kept.Kept.{Kept}

-- tables with room for so many words
abbrev pub room_for : ℕ → Reserved
room_for words = record { room = words }

-- the handle keeps tables with room for a survey of so many words, or there is no memory
abbrev pub Reserves : ℕ → Option Kept → Answer → Type 0
Reserves words now a = ((tables_in now ≡ Some (room_for words)) × (a ≡ done 0)) ⊎ ((now ≡ None) × (a ≡ bare out_of_memory 0))

-- The heap was collected into a memory, and the answer has its live words; or roots and memory are as they were, and
-- the answer says why, which is never for want of memory.
abbrev pub CollectsLentIn : Edition → List ℕ → List ℕ → List ℕ → List ℕ → List ℕ → Reserved → Answer → Type 0
CollectsLentIn edition words roots new_roots before after tables a =
    ((live : ℕ) × (a ≡ done live) × HasCollected edition words roots live new_roots before after)
    ⊎ ((new_roots ≡ roots) × (after ≡ before)
    × ((fault : CollectLentFault) × (a ≡ of_collect_lent fault) × RefusesLent edition words roots tables.room (length before) fault))

-- a heap of edition n, or there is no such edition
abbrev pub CollectsLent : ℕ → List ℕ → List ℕ → List ℕ → List ℕ → List ℕ → Reserved → Answer → Type 0
CollectsLent n words roots new_roots before after tables a =
    OfEdition n (λ edition. CollectsLentIn edition words roots new_roots before after tables a) ((new_roots ≡ roots) × (after ≡ before)) a

-- The heap was collected within its words, and the answer has its live words; or words and roots are as they were, and
-- the answer says why, which is never for want of memory.
abbrev pub CollectsLentWithin : Edition → List ℕ → List ℕ → List ℕ → List ℕ → Reserved → Answer → Type 0
CollectsLentWithin edition before after roots new_roots tables a =
    ((live : ℕ) × (a ≡ done live) × HasCollected edition before roots live new_roots before after)
    ⊎ ((new_roots ≡ roots) × (after ≡ before) × ((fault : LentFault) × (a ≡ of_lent fault) × IsLentFaultOf edition before roots tables.room fault))

-- a heap of edition n, or there is no such edition
abbrev pub CollectsLentInPlace : ℕ → List ℕ → List ℕ → List ℕ → List ℕ → Reserved → Answer → Type 0
CollectsLentInPlace n before after roots new_roots tables a =
    OfEdition n (λ edition. CollectsLentWithin edition before after roots new_roots tables a) ((new_roots ≡ roots) × (after ≡ before)) a

-- The tables become a survey of the heap by its roots; the answer has the number of live words.
abbrev pub SurveysLentIn : Asked → Reserved → Option Kept → Answer → Type 0
SurveysLentIn heap tables now a =
    (found : Found) × (survey_in now ≡ Some found) × IsMarkedOf heap found × (found.room ≡ tables.room) × (a ≡ done (length found.indices))

-- of a heap of edition n
abbrev pub SurveysLent : ℕ → List ℕ → List ℕ → Reserved → Option Kept → Answer → Type 0
SurveysLent n words roots tables now a =
    (edition : Edition) × (version_of edition ≡ n) × SurveysLentIn (asked edition words roots) tables now a

-- the tables have room for the heap, which has no fault: its survey finds this
abbrev pub IsSoundWithin : Asked → Reserved → Type 0
IsSoundWithin heap tables = (length heap.words ≤ tables.room) × ((found : Found) × IsMarkedOf heap found)

-- Why they do not: a fault, which is never for want of memory. Or there is no memory for the survey's own few bytes,
-- and no fault, and room for the heap.
abbrev pub IsUnlentIn : Asked → Reserved → Answer → Type 0
IsUnlentIn heap tables a =
    ((fault : LentFault) × (a ≡ of_lent fault) × IsLentFaultOf heap.edition heap.words heap.roots tables.room fault)
    ⊎ ((a ≡ of_survey survey.OutOfMemory) × IsFaultOf heap.edition heap.words heap.roots survey.OutOfMemory × IsSoundWithin heap tables)

-- or there is no edition n
abbrev pub IsUnlent : ℕ → List ℕ → List ℕ → Reserved → Answer → Type 0
IsUnlent n words roots tables a = OfEdition n (λ edition. IsUnlentIn (asked edition words roots) tables a) (Unit {0}) a

-- a survey becomes the tables in which it was made, and the answer has their room
abbrev pub Returns : Found → Option Kept → Answer → Type 0
Returns found now a = (tables_in now ≡ Some (room_for found.room)) × (a ≡ done found.room)

-- it does not: another handle keeps a share of it
abbrev pub IsStillShared : {X : Type 0} → X → Answer → Type 0
IsStillShared x a = a ≡ bare still_shared 0
