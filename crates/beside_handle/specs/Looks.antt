-- A marking by looks, by handles: how it begins, what waits, and how it ends.
use Rattle.std.specs.Prelude.{◌≡◌, ℕ, ◌<◌, ◌≤◌, ◌⊎◌, min, List, [], ◌++◌, All, drop, length, slice_index, take, Option, None, Some}
use Rattle.heap_layout.specs.declared.edition.Edition.{Edition}
use Rattle.heap_layout.specs.Heap.{Heap, IsValue}
use Rattle.heap_layout.specs.Limits.{most_object_words, most_roots, most_words}
use Rattle.rest_marks.specs.Given.{heap_now, IsBitsFaultOf}
use Rattle.rest_marks.specs.Looks.{met_by, AreLooked, Looking}
use Rattle.rest_marks.specs.Places.{Found, IsFoundOf}
use Rattle.rest_marks.specs.Reached.{IsFaultOf}
use Rattle.rest_marks.specs.declared.fault.BitsFault.{BitsFault}
use Rattle.rest_marks.specs.declared.fault.SurveyFault.{SurveyFault}
use Rattle.handle_base.specs.Answers.{bare, done, of_survey}
use Rattle.handle_base.specs.Statuses.{bad_edition, out_of_memory, still_waiting}
use Rattle.rest_handle.specs.ByBits.{of_bits}
use Rattle.handle_base.specs.HandleKinds.{looks_in, survey_in, Asks, Fills}
use Rattle.handle_base.specs.Making.{ByEdition}
use Rattle.handle_base.specs.declared.answer.Answer.{Answer}
use Rattle.handle_base.specs.declared.kept.Kept.{Kept}

-- The marking has met the objects to which these roots lead, and has looked at none: so it is right of any words.
pub record IsBegun (edition : Edition) (count : ℕ) (roots : List ℕ) (looks : Looking) : Type 0 where
  pub edition_is : looks.edition ≡ edition
  pub count_is : looks.count ≡ count
  pub none : looks.looked ≡ 0
  pub met : looks.met ≡ met_by count [] roots
  pub looked : (words : List ℕ) → AreLooked looks words

-- why no marking begins: a fault of these roots, whatever the words are
abbrev pub IsBeginFault : Edition → ℕ → List ℕ → SurveyFault → Type 0
IsBeginFault edition count roots fault = (words : List ℕ) → length words ≡ count → IsFaultOf edition words roots fault

-- the answer says whether an object waits to be looked at: 1, or 0
abbrev pub SaysWaiting : Looking → Answer → Type 0
SaysWaiting looks a =
    ((looks.looked < length looks.met) × (a ≡ done 1)) ⊎ ((length looks.met ≤ looks.looked) × (a ≡ done 0))

-- the handle keeps a marking that begins; or it keeps nothing, and the answer says why
abbrev pub BeginsIn : Edition → ℕ → List ℕ → Option Kept → Answer → Type 0
BeginsIn edition count roots now a =
    ((looks : Looking) × (looks_in now ≡ Some looks) × IsBegun edition count roots looks × SaysWaiting looks a)
    ⊎ ((now ≡ None) × ((fault : SurveyFault) × (a ≡ of_survey fault) × IsBeginFault edition count roots fault))

-- the same of the edition of number n, unless it has short objects
abbrev pub BeginsOf : ℕ → ℕ → List ℕ → Option Kept → Answer → Edition → Type 0
BeginsOf n count roots now a edition =
    ((most_words edition ≤ most_object_words edition) × BeginsIn edition count roots now a)
    ⊎ ((most_object_words edition < most_words edition) × (now ≡ None) × (a ≡ bare bad_edition n))

-- a marking of a heap of edition n and so many words
abbrev pub BeginsLooks : ℕ → ℕ → List ℕ → Option Kept → Option Kept → Answer → Type 0
BeginsLooks n count roots old new a =
    Fills 0 (λ now b. ByEdition n (BeginsOf n count roots now b) now b) (Unit {0}) old new a

-- the objects that wait to be looked at, the next one first
abbrev pub waiting_of : Looking → List ℕ
waiting_of looks = drop looks.looked looks.met

-- the indices of those that wait are copied, as many as there is room for; the answer has their number
abbrev pub CopiesWaiting : List ℕ → List ℕ → Looking → Answer → Type 0
CopiesWaiting before after looks a =
    (n : ℕ) × (n ≡ min (length (waiting_of looks)) (length before))
    × (after ≡ take n (waiting_of looks) ++ drop n before) × (a ≡ done n)

-- This was found when no object waited: it is found of some heap, the roots lead to its marked objects, and of the heap
-- of any words in which the objects that were looked at are as they must be.
pub record IsEnded (looks : Looking) (roots : List ℕ) (found : Found) : Type 0 where
  pub edition_is : found.edition ≡ looks.edition
  pub count_is : found.count ≡ looks.count
  pub some_heap : (heap : Heap) × IsFoundOf found heap
  pub few_roots : length roots ≤ most_roots looks.edition
  pub roots_lead : All (IsValue found.edition found.marks) roots
  pub looked : (words : List ℕ) → length words ≡ looks.count → AreLooked looks words
      → IsFoundOf found (heap_now found words roots)

-- why a marking of which nothing waits is not ended: a fault; or there is no memory for the survey's own few bytes
abbrev pub IsUnended : Looking → List ℕ → Answer → Type 0
IsUnended looks roots a =
    ((fault : BitsFault) × (a ≡ of_bits 0 fault)
    × IsBitsFaultOf looks.edition looks.count roots looks.heads looks.bits fault)
    ⊎ ((a ≡ bare out_of_memory 0) × ((found : Found) × IsEnded looks roots found))

-- the handle keeps what was found, and the answer has the number of live words; or it keeps nothing, and the answer
-- says why
abbrev pub EndsIn : List ℕ → Looking → Option Kept → Answer → Type 0
EndsIn roots looks now a =
    ((found : Found) × (survey_in now ≡ Some found) × IsEnded looks roots found × (a ≡ done (length found.indices)))
    ⊎ ((now ≡ None) × IsUnended looks roots a)

-- The marking goes, once no object waits. If one does, both handles keep what they kept, and the answer has the next
-- one.
abbrev pub EndsOf : List ℕ → Looking → Option Kept → Option Kept → Option Kept → Answer → Type 0
EndsOf roots looks from left now a =
    ((length looks.met ≤ looks.looked) × (left ≡ None) × EndsIn roots looks now a)
    ⊎ ((looks.looked < length looks.met) × (left ≡ from) × (now ≡ None)
    × (a ≡ bare still_waiting (slice_index looks.met looks.looked)))

-- the same for what the handles keep
abbrev pub EndsLooks : List ℕ → Option Kept → Option Kept → Option Kept → Option Kept → Answer → Type 0
EndsLooks roots from left to new a =
    Asks 0 looks_in (λ looks b. Fills 1 (λ now c. EndsOf roots looks from left now c) (left ≡ from) to new b)
    ((left ≡ from) × (new ≡ to)) from a
