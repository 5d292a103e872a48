-- Why a marking by looks does not go on.
use Rattle.std.specs.Prelude.{◌≡◌, ℕ, ◌+◌, ◌<◌, ◌≤◌, ◌⊎◌, true, false, List, [], length, take, slice_index, slice_index_or}
use Rattle.heap_layout.specs.declared.edition.Edition.{Edition}
use Rattle.heap_layout.specs.Bits.{bit}
use Rattle.heap_layout.specs.Header.{refs_of, weak_of, size_of}
use Rattle.heap_layout.specs.Heap.{header_at, object_at}
use Rattle.heap_layout.specs.Limits.{most_object_words}
use Rattle.rest_marks.specs.Given.{IsBitsFaultOf}
use Rattle.rest_marks.specs.Looks.{met_by, met_by_rows, Looking}
use Rattle.rest_marks.specs.Reached.{is_within}
use Rattle.rest_marks.specs.declared.fault.FinishFault.{FinishFault}
use Rattle.rest_marks.specs.declared.fault.FinishFault.TheVariants.{StillWaiting, Bits}
use Rattle.rest_marks.specs.declared.fault.LookFault.{LookFault}
use Rattle.rest_marks.specs.declared.fault.LookFault.TheVariants.{NoSuchObject, ShortRun, ObjectTooLong, ObjectPastEnd, Overlap, BadReference, BadWeak, OutOfMemory as NoMemory}
use Rattle.rest_marks.specs.declared.fault.MeetFault.{MeetFault}
use Rattle.rest_marks.specs.declared.fault.MeetFault.TheVariants.{BadValue, OutOfMemory}

-- The object at index i of `count` words, of which these words were handed in, does not lie among them as it must, by
-- its header; `bits` has those of the words of objects that were looked at.
abbrev pub IsPlacingFault : Edition → ℕ → List ℕ → ℕ → List ℕ → LookFault → Type 0
IsPlacingFault edition count bits i run NoSuchObject = ⊥
IsPlacingFault edition count bits i run (ShortRun n) = ⊥
IsPlacingFault edition count bits i run (ObjectTooLong k) = (k ≡ i) × (most_object_words edition < size_of (header_at edition run 0))
IsPlacingFault edition count bits i run (ObjectPastEnd k) = (k ≡ i) × (count < i + size_of (header_at edition run 0))
IsPlacingFault edition count bits i run (Overlap k) = (k ≡ i) × (j : ℕ) × (i ≤ j) × (j < i + size_of (header_at edition run 0)) × (bit bits j ≡ true)
IsPlacingFault edition count bits i run (BadReference j) = ⊥
IsPlacingFault edition count bits i run (BadWeak j) = ⊥
IsPlacingFault edition count bits i run NoMemory = ⊥

-- Its references and weak words were not handed in, or do not lead to words. Memory runs out only if they were, and if
-- one of its references leads to an object that was not met; `met` has those that were.
abbrev pub IsFieldsFault : Edition → ℕ → List ℕ → ℕ → List ℕ → LookFault → Type 0
IsFieldsFault edition count met i run NoSuchObject = ⊥
IsFieldsFault edition count met i run (ShortRun n) =
    (length run < n) × ((n ≡ 1) ⊎ (n ≡ 1 + refs_of (header_at edition run 0) + weak_of (header_at edition run 0)))
IsFieldsFault edition count met i run (ObjectTooLong k) = ⊥
IsFieldsFault edition count met i run (ObjectPastEnd k) = ⊥
IsFieldsFault edition count met i run (Overlap k) = ⊥
IsFieldsFault edition count met i run (BadReference j) =
    (f : ℕ) × (f < refs_of (header_at edition run 0)) × (j ≡ i + 1 + f) × (is_within edition count (slice_index run (1 + f)) ≡ false)
IsFieldsFault edition count met i run (BadWeak j) =
    (f : ℕ) × (f < weak_of (header_at edition run 0)) × (j ≡ i + 1 + refs_of (header_at edition run 0) + f)
    × (is_within edition count (slice_index run (1 + refs_of (header_at edition run 0) + f)) ≡ false)
IsFieldsFault edition count met i run NoMemory =
    (1 + refs_of (header_at edition run 0) + weak_of (header_at edition run 0) ≤ length run)
    × (length met < length (met_by count met (object_at edition run 0).references))

-- why the next object that waits is not looked at
abbrev pub IsLookFault : Looking → List ℕ → LookFault → Type 0
IsLookFault looking run fault =
    ((fault ≡ NoSuchObject) × (length looking.met ≤ looking.looked))
    ⊎ ((looking.looked < length looking.met)
    × (IsPlacingFault looking.edition looking.count looking.bits (slice_index looking.met looking.looked) run fault
    ⊎ IsFieldsFault looking.edition looking.count looking.met (slice_index looking.met looking.looked) run fault))

-- why the object at index i is not looked at again
abbrev pub IsLookAgainFault : Looking → ℕ → List ℕ → LookFault → Type 0
IsLookAgainFault looking i run fault =
    ((fault ≡ NoSuchObject) × (bit looking.heads i ≡ false))
    ⊎ ((bit looking.heads i ≡ true) × IsFieldsFault looking.edition looking.count looking.met i run fault)

-- word j is one of the objects of the first k of these rows, as their headers say, which are those of the objects that
-- were met from number `first` on
abbrev pub IsWordOfRows : Edition → List ℕ → ℕ → List (List ℕ) → ℕ → ℕ → Type 0
IsWordOfRows edition met first rows k j =
    (l : ℕ) × (l < k) × (slice_index met (first + l) ≤ j)
    × (j < slice_index met (first + l) + size_of (header_at edition (slice_index_or rows l []) 0))

-- What a marking is after it looked at the first k of these rows.
pub record IsAfterRows (looking : Looking) (rows : List (List ℕ)) (k : ℕ) (after : Looking) : Type 0 where
  pub edition : after.edition ≡ looking.edition
  pub count : after.count ≡ looking.count
  pub met : after.met ≡ met_by_rows looking.edition looking.count looking.met (take k rows)
  pub looked : after.looked ≡ looking.looked + k
  pub set : (j : ℕ) → bit looking.bits j ≡ true → bit after.bits j ≡ true
  pub words : (j : ℕ) → IsWordOfRows looking.edition after.met looking.looked rows k j → bit after.bits j ≡ true
  pub only : (j : ℕ) → bit after.bits j ≡ true
      → (bit looking.bits j ≡ true) ⊎ IsWordOfRows looking.edition after.met looking.looked rows k j

-- why these rows are not looked at: one of them is not, after those before it were
abbrev pub IsRowsFault : Looking → List (List ℕ) → LookFault → Type 0
IsRowsFault looking rows fault =
    (k : ℕ) × (k < length rows)
    × (after : Looking) × IsAfterRows looking rows k after × IsLookFault after (slice_index_or rows k []) fault

-- why the objects to which these values lead are not met: memory runs out only if one of them was not met
abbrev pub IsMeetFault : Looking → List ℕ → MeetFault → Type 0
IsMeetFault looking values (BadValue k) =
    (k < length values) × (is_within looking.edition looking.count (slice_index values k) ≡ false)
IsMeetFault looking values OutOfMemory = length looking.met < length (met_by looking.count looking.met values)

-- why a marking is not ended with these roots
abbrev pub IsFinishFault : Looking → List ℕ → FinishFault → Type 0
IsFinishFault looking roots StillWaiting = looking.looked < length looking.met
IsFinishFault looking roots (Bits fault) = IsBitsFaultOf looking.edition looking.count roots looking.heads looking.bits fault
