-- A heap at rest, in memory of the caller: collections, surveys, and what is done by a survey.
use Rattle.std.specs.Prelude.{◌≡◌, ◌≢◌, ℕ, ◌+◌, ◌-◌, ◌/◌, ◌<◌, ◌==◌, ◌⊎◌, Bool, true, false, IsFalse, IsTrue, List, All, count_by, drop, length, map, slice_index, take, Option, None, Some}
use Rattle.heap_layout.specs.Heap.{is_value, IsValue}
use Rattle.heap_layout.specs.Versions.{version_of}
use Rattle.heap_layout.specs.declared.edition.Edition.{Edition}
use Rattle.mark_job.specs.Asked.{Asked, IsMarkedOf}
use Rattle.stopped_heap.specs.Collecting.{HasCollected, RefusesCollection}
use Rattle.rest_marks.specs.Marks.{IsMarksFaultOf}
use Rattle.rest_marks.specs.Places.{led_by, words_now, Found, IsAsFound, IsFoundOf, IsSlideFault}
use Rattle.rest_marks.specs.Reached.{IsFaultOf}
use Rattle.rest_marks.specs.Surveys.{marks_of}
use Rattle.rest_marks.specs.declared.fault.CollectFault.{CollectFault}
use Rattle.rest_marks.specs.declared.fault.MarksFault.{MarksFault}
use Rattle.rest_marks.specs.declared.fault.MarksFault.TheVariants as refusal
use Rattle.rest_marks.specs.declared.fault.SlideFault.{SlideFault}
use Rattle.rest_marks.specs.declared.fault.SlideFault.TheVariants as slide
use Rattle.rest_marks.specs.declared.fault.SurveyFault.{SurveyFault}
use Rattle.handle_base.specs.Answers.{bare, done, of_collect, of_marks, of_slide, of_survey}
use Rattle.handle_base.specs.Statuses.{bad_edition, bad_root, not_empty, out_of_memory}
use Rattle.handle_base.specs.HandleKinds.{survey_in, Asks, Fills}
use Rattle.handle_base.specs.Making.{ByEdition}
use Rattle.handle_base.specs.declared.answer.Answer.{Answer}
use Rattle.handle_base.specs.declared.kept.Kept.{Kept}
use Rattle.rest_handle.specs.declared.resting.SurveyFacts.{SurveyFacts}

-- the heap of these words and roots
abbrev pub asked : Edition → List ℕ → List ℕ → Asked
asked edition words roots = record { edition = edition; words = words; roots = roots }

-- what is done for the edition of number n; or there is no such edition, and R
abbrev pub OfEdition : ℕ → (Edition → Type 0) → Type 0 → Answer → Type 0
OfEdition n Done R a =
    ((edition : Edition) × (version_of edition ≡ n) × Done edition)
    ⊎ (((edition : Edition) → version_of edition ≢ n) × R × (a ≡ bare bad_edition n))

-- The heap was collected into a memory, and the answer has its live words; or roots and memory are as they were, and
-- the answer says why.
abbrev pub CollectsIn : Edition → List ℕ → List ℕ → List ℕ → List ℕ → List ℕ → Answer → Type 0
CollectsIn edition words roots new_roots before after a =
    ((live : ℕ) × (a ≡ done live) × HasCollected edition words roots live new_roots before after)
    ⊎ ((new_roots ≡ roots) × (after ≡ before) × ((fault : CollectFault) × (a ≡ of_collect fault) × RefusesCollection edition words roots (length before) fault))

-- a heap of edition n, or there is no such edition
abbrev pub Collects : ℕ → List ℕ → List ℕ → List ℕ → List ℕ → List ℕ → Answer → Type 0
Collects n words roots new_roots before after a =
    OfEdition n (λ edition. CollectsIn edition words roots new_roots before after a) ((new_roots ≡ roots) × (after ≡ before)) a

-- The heap was collected within its words, and the answer has its live words; or words and roots are as they were, and
-- the answer says why.
abbrev pub CollectsWithin : Edition → List ℕ → List ℕ → List ℕ → List ℕ → Answer → Type 0
CollectsWithin edition before after roots new_roots a =
    ((live : ℕ) × (a ≡ done live) × HasCollected edition before roots live new_roots before after)
    ⊎ ((new_roots ≡ roots) × (after ≡ before) × ((fault : SurveyFault) × (a ≡ of_survey fault) × IsFaultOf edition before roots fault))

-- a heap of edition n, or there is no such edition
abbrev pub CollectsInPlace : ℕ → List ℕ → List ℕ → List ℕ → List ℕ → Answer → Type 0
CollectsInPlace n before after roots new_roots a =
    OfEdition n (λ edition. CollectsWithin edition before after roots new_roots a) ((new_roots ≡ roots) × (after ≡ before)) a

-- The handle keeps what the roots of the heap reach, and where it slides; the answer has the number of live words. Or
-- it keeps nothing, and the answer says why.
abbrev pub Surveys : Asked → Option Kept → Answer → Type 0
Surveys heap now a =
    ((found : Found) × (survey_in now ≡ Some found) × IsMarkedOf heap found × (a ≡ done (length found.indices)))
    ⊎ ((now ≡ None) × ((fault : SurveyFault) × (a ≡ of_survey fault) × IsFaultOf heap.edition heap.words heap.roots fault))

-- a survey of a heap of edition n by its roots
abbrev pub SurveysByRoots : ℕ → List ℕ → List ℕ → Option Kept → Option Kept → Answer → Type 0
SurveysByRoots n words roots old new a =
    Fills 0 (λ now b. ByEdition n (λ edition. Surveys (asked edition words roots) now b) now b) (Unit {0}) old new a

-- this was found of the heap whose marked objects are those at the set bits, one for each word
pub record IsTakenOf (heap : Asked) (bits : List ℕ) (found : Found) : Type 0 where
  pub marks : found.marks ≡ marks_of bits
  pub long : length bits ≡ (length heap.words + 63) / 64
  pub places : IsFoundOf found (record { edition = heap.edition; words = heap.words; marks = found.marks; roots = heap.roots })

-- Why marks are not taken: there is not a bit for each word, which is asked before all else; or there is, and the heap
-- or the marks are refused.
abbrev pub RefusesMarks : Asked → List ℕ → MarksFault → Type 0
RefusesMarks heap bits fault =
    ((fault ≡ refusal.WrongLength) × (length bits ≢ (length heap.words + 63) / 64))
    ⊎ ((length bits ≡ (length heap.words + 63) / 64) × IsMarksFaultOf heap.edition heap.words heap.roots bits fault)

-- The handle keeps what is marked, and where it slides; the answer has the number of live words. Or it keeps nothing,
-- and the answer says why.
abbrev pub TakesMarks : Asked → List ℕ → Option Kept → Answer → Type 0
TakesMarks heap bits now a =
    ((found : Found) × (survey_in now ≡ Some found) × IsTakenOf heap bits found × (a ≡ done (length found.indices)))
    ⊎ ((now ≡ None) × ((fault : MarksFault) × (a ≡ of_marks fault) × RefusesMarks heap bits fault))

-- a survey of a heap of edition n by marks of the caller's own
abbrev pub SurveysByMarks : ℕ → List ℕ → List ℕ → List ℕ → Option Kept → Option Kept → Answer → Type 0
SurveysByMarks n words roots bits old new a =
    Fills 0 (λ now b. ByEdition n (λ edition. TakesMarks (asked edition words roots) bits now b) now b) (Unit {0}) old new a

-- the counts of a survey
abbrev pub survey_facts_of : Found → SurveyFacts
survey_facts_of found = record { live_words = length found.indices }

abbrev pub CountsSurvey : SurveyFacts → Found → Answer → Type 0
CountsSurvey out found a = (out ≡ survey_facts_of found) × (a ≡ done 0)

-- The part was filled with the words that stand there after the collection, as their objects are in these words now; or
-- the answer says why not.
abbrev pub Slides : List ℕ → ℕ → List ℕ → List ℕ → Found → Answer → Type 0
Slides words first before after found a =
    ((a ≡ done 0) × (after ≡ take (length before) (drop first (words_now found words))) × IsAsFound found words first (length before))
    ⊎ ((fault : SlideFault) × (a ≡ of_slide fault) × IsSlideFault found words first (length before) fault
    × (fault ≡ slide.NoSuchPart → after ≡ before) × (fault ≡ slide.OtherCount → after ≡ before))

-- Root k is the first one that is neither null nor the address of a live object, nor an immediate.
pub record IsFirstStray (found : Found) (roots : List ℕ) (k : ℕ) : Type 0 where
  pub inside : k < length roots
  pub stray : is_value found.edition found.marks (slice_index roots k) ≡ false
  pub first : (j : ℕ) → j < k → is_value found.edition found.marks (slice_index roots j) ≡ true

-- The roots lead to where their objects are after the collection; or they are as they were, and the answer has the
-- first one that leads to no live object.
abbrev pub ForwardsRoots : List ℕ → List ℕ → Found → Answer → Type 0
ForwardsRoots before after found a =
    ((a ≡ done 0) × All (IsValue found.edition found.marks) before × (after ≡ map (led_by found) before))
    ⊎ ((after ≡ before) × ((k : ℕ) × (a ≡ bare bad_root k) × IsFirstStray found before k))

-- how many of these words are null
abbrev pub nulls : List ℕ → ℕ
nulls words = count_by (λ word. word == 0) words

-- the weak words lead to where their objects are after the collection, or nowhere; the answer has how many became null
abbrev pub ForwardsWeak : List ℕ → List ℕ → Found → Answer → Type 0
ForwardsWeak before after found a = (a ≡ done (nulls after - nulls before)) × (after ≡ map (led_by found) before)
