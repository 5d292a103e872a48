-- A survey that grows and keeps no words: they are handed in at each call, and may have been written to in between.
use Rattle.std.specs.Prelude.{◌≡◌, ℕ, ◌+◌, ◌<◌, cond, List, [], ◌++◌, length, map, slice_index}
use Rattle.std.specs.List.{range_with_len}
use Rattle.heap_layout.specs.declared.edition.Edition.{Edition}
use Rattle.heap_layout.specs.Header.{size_of}
use Rattle.heap_layout.specs.Heap.{from_address, header_at}
use Rattle.heap_layout.specs.Limits.{most_object_words}
use Rattle.mark_tables.specs.LiveWords.{is_live}
use Rattle.stopped_heap.specs.Ephemerons.{AreHeld, IsHeld, IsHeldFaultOf}
use Rattle.rest_marks.specs.Given.{heap_now}
use Rattle.rest_marks.specs.Growing.{roots_on, IsGrown, IsMoreFaultOf, IsSeenFaultOf}
use Rattle.rest_marks.specs.Places.{Found, IsFoundOf}
use Rattle.rest_marks.specs.Reached.{AreReached}
use Rattle.rest_marks.specs.declared.fault.SurveyFault.{SurveyFault}
use Rattle.rest_marks.specs.declared.fault.SurveyFault.TheVariants.{TooLarge, BadRoot, BadReference, BadWeak, ObjectTooLong, ObjectPastEnd, Overlap, OutOfMemory}

-- What was found is found in these words: its objects have the words that were found to be theirs, and lead to one
-- another. Nothing is said of the other words.
abbrev pub IsFoundIn : Found → List ℕ → Type 0
IsFoundIn found words = IsFoundOf found (heap_now found words [])

-- the words of the objects that were found as they were before, and the other words as they are
abbrev pub mixed : Found → List ℕ → List ℕ → List ℕ
mixed found before words = map (λ i. cond (is_live found.indices i) (slice_index before i) (slice_index words i)) (range_with_len 0 (length words))

-- A survey went on in these words, from what was found before and from more roots. The objects that it found are those
-- that are reached in the mixed words, and it is found there. So if what was found before is found in these words, all
-- is so of these words.
pub record HasGrown (found : Found) (words more : List ℕ) (after : Found) : Type 0 where
  pub edition : after.edition ≡ found.edition
  pub count : after.count ≡ found.count
  pub room : after.room ≡ found.room
  pub reached : IsFoundIn found words → AreReached found.edition words (roots_on found.marks more) after.marks
  pub found_in : IsFoundIn found words → IsFoundIn after words
  pub together : IsFoundIn found words → (roots : List ℕ) → AreReached found.edition words roots found.marks → AreReached found.edition words (roots ++ more) after.marks
  pub mixed_reached : (before : List ℕ) → IsFoundIn found before → AreReached found.edition (mixed found before words) (roots_on found.marks more) after.marks
  pub mixed_found : (before : List ℕ) → IsFoundIn found before → IsFoundIn after (mixed found before words)

-- the same of ephemerons
pub record HasHeld (found : Found) (words ephemerons : List ℕ) (after : Found) : Type 0 where
  pub edition : after.edition ≡ found.edition
  pub count : after.count ≡ found.count
  pub room : after.room ≡ found.room
  pub held : IsFoundIn found words → AreHeld found.edition words found.marks ephemerons after.marks
  pub found_in : IsFoundIn found words → IsFoundIn after words
  pub mixed_held : (before : List ℕ) → IsFoundIn found before → AreHeld found.edition (mixed found before words) found.marks ephemerons after.marks
  pub mixed_found : (before : List ℕ) → IsFoundIn found before → IsFoundIn after (mixed found before words)

-- The fault is one of these words and ephemerons, if the objects at `marks` were marked in those that were seen.
abbrev pub IsSeenHeldFaultOf : Edition → List ℕ → List ℕ → List ℕ → List ℕ → SurveyFault → Type 0
IsSeenHeldFaultOf edition words seen marks ephemerons TooLarge = ⊥
IsSeenHeldFaultOf edition words seen marks ephemerons (BadRoot k) = IsHeldFaultOf edition words marks ephemerons (BadRoot k)
IsSeenHeldFaultOf edition words seen marks ephemerons (BadReference j) = IsHeldFaultOf edition seen marks ephemerons (BadReference j)
IsSeenHeldFaultOf edition words seen marks ephemerons (BadWeak j) = IsHeldFaultOf edition seen marks ephemerons (BadWeak j)
IsSeenHeldFaultOf edition words seen marks ephemerons (ObjectTooLong i) =
    IsHeld edition seen marks ephemerons (from_address i) × (most_object_words edition < size_of (header_at edition words i))
IsSeenHeldFaultOf edition words seen marks ephemerons (ObjectPastEnd i) =
    IsHeld edition seen marks ephemerons (from_address i) × (length words < i + size_of (header_at edition words i))
IsSeenHeldFaultOf edition words seen marks ephemerons (Overlap i) = IsHeldFaultOf edition seen marks ephemerons (Overlap i)
IsSeenHeldFaultOf edition words seen marks ephemerons OutOfMemory = IsHeldFaultOf edition words marks ephemerons OutOfMemory

-- Why a survey did not go on from more roots in these words. Said of these words if what was found before is found
-- there, and else of the mixed words.
pub record IsGrowthFaultOf (found : Found) (words more : List ℕ) (fault : SurveyFault) : Type 0 where
  pub now : IsFoundIn found words → IsMoreFaultOf found.edition words found.marks more fault
  pub mixed_now : (before : List ℕ) → IsFoundIn found before → IsSeenFaultOf found.edition words (mixed found before words) found.marks more fault

-- and from ephemerons
pub record IsGrowthHeldFaultOf (found : Found) (words ephemerons : List ℕ) (fault : SurveyFault) : Type 0 where
  pub now : IsFoundIn found words → IsHeldFaultOf found.edition words found.marks ephemerons fault
  pub mixed_now : (before : List ℕ) → IsFoundIn found before → IsSeenHeldFaultOf found.edition words (mixed found before words) found.marks ephemerons fault

-- the tables of a survey that grows, in some words
abbrev pub AreGrownOf : Edition → ℕ → List ℕ → List ℕ → List ℕ → Type 0
AreGrownOf edition count queue heads bits = (words : List ℕ) × (length words ≡ count) × IsGrown edition words queue heads bits
