-- A survey by bits of the caller's own, with no look at the words.
use Rattle.std.specs.Prelude.{◌≡◌, ℕ, ◌≤◌, ◌⊎◌, List, All, length, Option, None, Some}
use Rattle.heap_layout.specs.declared.edition.Edition.{Edition}
use Rattle.heap_layout.specs.Heap.{Heap, IsValue}
use Rattle.heap_layout.specs.Limits.{most_roots}
use Rattle.mark_tables.specs.MarkBitmap.{set_bits}
use Rattle.rest_marks.specs.Given.{IsBitsFaultOf}
use Rattle.rest_marks.specs.Places.{Found, IsFoundOf}
use Rattle.rest_marks.specs.Surveys.{marks_of}
use Rattle.rest_marks.specs.declared.fault.BitsFault.{BitsFault}
use Rattle.rest_marks.specs.declared.fault.BitsFault.TheVariants as given
use Rattle.handle_base.specs.Answers.{bare, done}
use Rattle.handle_base.specs.Statuses.{bad_edition, bad_root, not_a_run, object_past_end, out_of_memory, too_large, wrong_length}
use Rattle.handle_base.specs.HandleKinds.{survey_in, Fills}
use Rattle.handle_base.specs.Making.{ByEdition}
use Rattle.handle_base.specs.declared.answer.Answer.{Answer}
use Rattle.handle_base.specs.declared.kept.Kept.{Kept}

-- bits of a heap of edition n were not taken
abbrev pub of_bits : ℕ → BitsFault → Answer
of_bits n given.TooLarge = bare too_large 0
of_bits n given.ShortObjects = bare bad_edition n
of_bits n given.WrongLength = bare wrong_length 0
of_bits n (given.BadRoot k) = bare bad_root k
of_bits n (given.NotARun i) = bare not_a_run i
of_bits n (given.PastEnd i) = bare object_past_end i
of_bits n given.OutOfMemory = bare out_of_memory 0

-- This was found: the marked objects, and the live words, at the bits that are set; it is found of some heap, and the
-- roots lead to its marked objects. Whether it is so of the words of now, a slide of all parts shows.
pub record IsGivenOf (edition : Edition) (count : ℕ) (roots heads bits : List ℕ) (found : Found) : Type 0 where
  pub edition_is : found.edition ≡ edition
  pub count_is : found.count ≡ count
  pub marks : found.marks ≡ marks_of heads
  pub indices : found.indices ≡ set_bits bits
  pub some_heap : (heap : Heap) × IsFoundOf found heap
  pub few_roots : length roots ≤ most_roots edition
  pub roots_lead : All (IsValue found.edition found.marks) roots

-- The handle keeps what the bits say, and where it slides; the answer has the number of live words. Or it keeps
-- nothing, and the answer says why.
abbrev pub TakesBits : ℕ → ℕ → List ℕ → List ℕ → List ℕ → Option Kept → Answer → Edition → Type 0
TakesBits n count roots heads bits now a edition =
    ((found : Found) × (survey_in now ≡ Some found) × IsGivenOf edition count roots heads bits found × (a ≡ done (length found.indices)))
    ⊎ ((now ≡ None) × ((fault : BitsFault) × (a ≡ of_bits n fault) × IsBitsFaultOf edition count roots heads bits fault))

-- a survey of a heap of edition n and so many words by bits of the caller's own
abbrev pub SurveysByBits : ℕ → ℕ → List ℕ → List ℕ → List ℕ → Option Kept → Option Kept → Answer → Type 0
SurveysByBits n count roots heads bits old new a = Fills 0 (λ now b. ByEdition n (TakesBits n count roots heads bits now b) now b) (Unit {0}) old new a
