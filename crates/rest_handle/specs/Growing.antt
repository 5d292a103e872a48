-- A survey that grows, by handles. The words are lent at each call: no clause asks that they are as they were, and what
-- is said of them is said if what was found so far is found in them.
use Rattle.std.specs.Prelude.{◌≡◌, ◌≢◌, ℕ, ◌<◌, ◌≤◌, ◌⊎◌, true, false, List, [], All, length, Option, None, Some}
use Rattle.heap_layout.specs.Heap.{is_value, Heap, IsValue}
use Rattle.heap_layout.specs.Versions.{version_of}
use Rattle.heap_layout.specs.declared.edition.Edition.{Edition}
use Rattle.stopped_heap.specs.Growth.{HasGrown, HasHeld, IsFoundIn, IsGrowthFaultOf, IsGrowthHeldFaultOf}
use Rattle.rest_marks.specs.Places.{Found, IsFoundOf}
use Rattle.rest_marks.specs.Reached.{IsFaultOf}
use Rattle.stopped_heap.specs.Tables.{IsLentFaultOf, Reserved}
use Rattle.rest_marks.specs.declared.fault.LentFault.{LentFault}
use Rattle.rest_marks.specs.declared.fault.SurveyFault.{SurveyFault}
use Rattle.rest_marks.specs.declared.fault.SurveyFault.TheVariants as survey
use Rattle.handle_base.specs.Answers.{bare, done, of_lent, of_survey}
use Rattle.handle_base.specs.Statuses.{out_of_memory, wrong_length}
use Rattle.handle_base.specs.HandleKinds.{growing_in, survey_in, tables_in, Asks, Fills}
use Rattle.rest_handle.specs.Lending.{room_for}
use Rattle.handle_base.specs.Making.{ByEdition}
use Rattle.rest_handle.specs.Resting.{OfEdition}
use Rattle.handle_base.specs.declared.answer.Answer.{Answer}
use Rattle.handle_base.specs.declared.kept.Kept.{Kept}

-- This is a survey of these words that has marked nothing, in tables with this room.
pub record IsFresh (edition : Edition) (words : List ℕ) (room : ℕ) (found : Found) : Type 0 where
  pub edition_is : found.edition ≡ edition
  pub count_is : found.count ≡ length words
  pub none : found.marks ≡ []
  pub places : IsFoundIn found words
  pub room_is : found.room ≡ room

-- the handle keeps a survey that has marked nothing; or it keeps nothing, and the answer says why
abbrev pub BeginsIn : Edition → List ℕ → Option Kept → Answer → Type 0
BeginsIn edition words now a =
    ((found : Found) × (growing_in now ≡ Some found) × IsFresh edition words 0 found × (a ≡ done 0))
    ⊎ ((now ≡ None) × ((fault : SurveyFault) × (a ≡ of_survey fault) × IsFaultOf edition words [] fault))

-- a survey of a heap of edition n
abbrev pub BeginsGrowing : ℕ → List ℕ → Option Kept → Option Kept → Answer → Type 0
BeginsGrowing n words old new a =
    Fills 0 (λ now b. ByEdition n (λ edition. BeginsIn edition words now b) now b) (Unit {0}) old new a

-- the tables become a survey that has marked nothing
abbrev pub BeginsLentIn : Edition → List ℕ → Reserved → Option Kept → Answer → Type 0
BeginsLentIn edition words tables now a =
    (found : Found) × (growing_in now ≡ Some found) × IsFresh edition words tables.room found × (length words ≤ tables.room) × (a ≡ done 0)

-- of a heap of edition n
abbrev pub BeginsLent : ℕ → List ℕ → Reserved → Option Kept → Answer → Type 0
BeginsLent n words tables now a = (edition : Edition) × (version_of edition ≡ n) × BeginsLentIn edition words tables now a

-- why they do not: there are too many words, for the edition or for them
abbrev pub IsUnbegunIn : Edition → List ℕ → Reserved → Answer → Type 0
IsUnbegunIn edition words tables a =
    (fault : LentFault) × (a ≡ of_lent fault) × IsLentFaultOf edition words [] tables.room fault

-- or there is no edition n
abbrev pub IsUnbegun : ℕ → List ℕ → Reserved → Answer → Type 0
IsUnbegun n words tables a = OfEdition n (λ edition. IsUnbegunIn edition words tables a) (Unit {0}) a

-- A survey was to grow in so many words. The handle keeps what it has then, and the answer has the number of objects
-- that it keeps; or there are not as many words as it is of, and it stays; or there are, and it is over: the handle
-- keeps its tables, and the answer says why. Memory runs out only if the tables have room for fewer words.
abbrev pub GrowsIn : (Found → Type 0) → (SurveyFault → Type 0) → ℕ → Found → Option Kept → Answer → Type 0
GrowsIn Has Why many found now a =
    ((many ≡ found.count) × ((after : Found) × (growing_in now ≡ Some after) × Has after × (a ≡ done (length after.marks))))
    ⊎ ((many ≢ found.count) × (growing_in now ≡ Some found) × (a ≡ bare wrong_length 0))
    ⊎ ((many ≡ found.count) × (tables_in now ≡ Some (room_for found.room))
    × ((fault : SurveyFault) × (a ≡ of_survey fault) × Why fault × (fault ≡ survey.OutOfMemory → found.room < found.count)))

-- it has what more roots reach, each of which leads to what it keeps
abbrev pub HasAlso : List ℕ → List ℕ → Found → Found → Type 0
HasAlso words more found after = HasGrown found words more after × All (IsValue found.edition after.marks) more

-- the survey that the handle keeps was to grow by what more roots reach
abbrev pub Grows : List ℕ → List ℕ → Option Kept → Option Kept → Answer → Type 0
Grows words more from left a =
    Asks 0 growing_in (λ found b. GrowsIn (HasAlso words more found) (IsGrowthFaultOf found words more) (length words) found left b) (left ≡ from) from a

-- the same by the values of ephemerons
abbrev pub GrowsByValues : List ℕ → List ℕ → Option Kept → Option Kept → Answer → Type 0
GrowsByValues words ephemerons from left a =
    Asks 0 growing_in (λ found b. GrowsIn (HasHeld found words ephemerons) (IsGrowthHeldFaultOf found words ephemerons) (length words) found left b) (left ≡ from) from a

-- the answer says whether the word is kept so far: 1, or 0
abbrev pub SaysKept : ℕ → Found → Answer → Type 0
SaysKept word found a =
    ((is_value found.edition found.marks word ≡ true) × (a ≡ done 1)) ⊎ ((is_value found.edition found.marks word ≡ false) × (a ≡ done 0))

-- the handle keeps the survey of all that was kept, and the answer has the number of live words
abbrev pub EndsGrowing : Found → Option Kept → Answer → Type 0
EndsGrowing found now a = (survey_in now ≡ Some found) × ((heap : Heap) × IsFoundOf found heap) × (a ≡ done (length found.indices))

-- The survey that grew goes, and the second handle, which was empty, keeps it; or there is no memory, and the first
-- handle keeps its tables.
abbrev pub SettlesGrowing : Option Kept → Option Kept → Option Kept → Option Kept → Answer → Type 0
SettlesGrowing from left to new a =
    Asks 0 growing_in (λ found b.
    Fills 1 (λ now c. ((left ≡ None) × EndsGrowing found now c) ⊎ ((tables_in left ≡ Some (room_for found.room)) × (now ≡ None) × (c ≡ bare out_of_memory 0)))
    (left ≡ from) to new b)
    ((left ≡ from) × (new ≡ to)) from a

-- the handle keeps these tables, and the answer has their room
abbrev pub GivesBack : Reserved → Option Kept → Answer → Type 0
GivesBack tables now a = (tables_in now ≡ Some tables) × (a ≡ done tables.room)

-- tables are given back whenever the second handle is empty
abbrev pub IsNever : Reserved → Answer → Type 0
IsNever tables a = ⊥
