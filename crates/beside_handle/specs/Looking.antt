-- The steps of a marking by looks, by handles. Each is a fact of what the marking was before it and is after it.
use Rattle.std.specs.Prelude.{◌≡◌, ℕ, ◌+◌, ◌<◌, ◌≤◌, ◌⊎◌, false, true, List, length, slice_index, Option, None, Some}
use Rattle.heap_layout.specs.Bits.{bit}
use Rattle.heap_layout.specs.Heap.{object_at}
use Rattle.rest_marks.specs.LookFaults.{IsLookAgainFault, IsMeetFault, IsRowsFault}
use Rattle.rest_marks.specs.Looks.{met_by, met_by_rows, rows_of, AreLooked, AreRowsAt, AreSameBut, IsAt, Looking}
use Rattle.rest_marks.specs.declared.fault.LookFault.{LookFault}
use Rattle.rest_marks.specs.declared.fault.LookFault.TheVariants as look
use Rattle.rest_marks.specs.declared.fault.MeetFault.{MeetFault}
use Rattle.rest_marks.specs.declared.fault.MeetFault.TheVariants as meet
use Rattle.handle_base.specs.Answers.{bare}
use Rattle.handle_base.specs.Statuses.{bad_reference, bad_root, bad_weak, no_such_object, object_past_end, object_too_long, out_of_memory, overlap, too_short}
use Rattle.handle_base.specs.HandleKinds.{looks_in, Asks}
use Rattle.beside_handle.specs.Looks.{SaysWaiting}
use Rattle.handle_base.specs.declared.answer.Answer.{Answer}
use Rattle.handle_base.specs.declared.kept.Kept.{Kept}

-- an object was not looked at
abbrev pub of_look : LookFault → Answer
of_look look.NoSuchObject = bare no_such_object 0
of_look (look.ShortRun n) = bare too_short n
of_look (look.ObjectTooLong i) = bare object_too_long i
of_look (look.ObjectPastEnd i) = bare object_past_end i
of_look (look.Overlap i) = bare overlap i
of_look (look.BadReference i) = bare bad_reference i
of_look (look.BadWeak i) = bare bad_weak i
of_look look.OutOfMemory = bare out_of_memory 0

-- values were not met
abbrev pub of_meet : MeetFault → Answer
of_meet (meet.BadValue k) = bare bad_root k
of_meet meet.OutOfMemory = bare out_of_memory 0

-- what stays of a marking in each step: the edition, the number of words, and what was met, in its order
pub record GoesOn (before after : Looking) : Type 0 where
  pub edition_is : after.edition ≡ before.edition
  pub count_is : after.count ≡ before.count
  pub stay : (k : ℕ) → k < length before.met → slice_index after.met k ≡ slice_index before.met k

-- The next objects that waited were looked at, one for each row. In all words in which the rows stand where these
-- objects are, and the objects that were looked at before are as they must be, so are those that were looked at then.
pub record HasLooked (rows : List ℕ) (before after : Looking) : Type 0 where
  pub goes_on : GoesOn before after
  pub many : after.looked ≡ before.looked + length (rows_of before.edition rows)
  pub waited : after.looked ≤ length after.met
  pub met : after.met ≡ met_by_rows before.edition before.count before.met (rows_of before.edition rows)
  pub looked : (words : List ℕ) → length words ≡ before.count
      → AreRowsAt words after.met before.looked (rows_of before.edition rows) → AreLooked before words → AreLooked after words

-- The object at index i was looked at again. What was right of the words of before is right of those of now, if all
-- other objects that were looked at are the same in both, and this one is as long.
pub record HasLookedAgain (i : ℕ) (row : List ℕ) (before after : Looking) : Type 0 where
  pub goes_on : GoesOn before after
  pub many : after.looked ≡ before.looked
  pub met : after.met ≡ met_by before.count before.met (object_at before.edition row 0).references
  pub looked : (old now : List ℕ) → length old ≡ before.count → length now ≡ before.count → IsAt now i row
      → AreSameBut before.edition old now before.met before.looked i → AreLooked before old → AreLooked after now

-- the objects to which these values lead were met
pub record HasMet (values : List ℕ) (before after : Looking) : Type 0 where
  pub goes_on : GoesOn before after
  pub many : after.looked ≡ before.looked
  pub met : after.met ≡ met_by before.count before.met values
  pub looked : (words : List ℕ) → AreLooked before words → AreLooked after words

-- P of the marking before and after, which the handle keeps still; or the marking ended, its handle is empty, and Q
abbrev pub StepsOn : (Looking → Looking → Answer → Type 0) → (Looking → Answer → Type 0) → Option Kept → Looking
    → Answer → Type 0
StepsOn P Q left looks a =
    ((after : Looking) × (looks_in left ≡ Some after) × P looks after a) ⊎ ((left ≡ None) × Q looks a)

-- the same of the marking that the handle keeps; or it keeps none, and stays
abbrev pub Steps : (Looking → Looking → Answer → Type 0) → (Looking → Answer → Type 0) → Option Kept → Option Kept
    → Answer → Type 0
Steps P Q from left a = Asks 0 looks_in (StepsOn P Q left) (left ≡ from) from a

-- the next objects that wait are looked at; or the answer says why not
abbrev pub LooksAtRows : List ℕ → Option Kept → Option Kept → Answer → Type 0
LooksAtRows rows from left a =
    Steps (λ before after b. HasLooked rows before after × SaysWaiting after b)
    (λ before b. (fault : LookFault) × (b ≡ of_look fault) × IsRowsFault before (rows_of before.edition rows) fault)
    from left a

-- The object at index i is looked at again; or the answer says why not. If no object was met there, the marking stays.
abbrev pub LooksAgain : ℕ → List ℕ → Option Kept → Option Kept → Answer → Type 0
LooksAgain i row from left a =
    Asks 0 looks_in (λ looks b. ((bit looks.heads i ≡ false) × (left ≡ from) × (b ≡ bare no_such_object i))
    ⊎ ((bit looks.heads i ≡ true) × StepsOn (λ before after c. HasLookedAgain i row before after × SaysWaiting after c)
    (λ before c. (fault : LookFault) × (c ≡ of_look fault) × IsLookAgainFault before i row fault) left looks b))
    (left ≡ from) from a

-- the objects to which these values lead are met; or the answer says why not
abbrev pub MeetsValues : List ℕ → Option Kept → Option Kept → Answer → Type 0
MeetsValues values from left a =
    Steps (λ before after b. HasMet values before after × SaysWaiting after b)
    (λ before b. (fault : MeetFault) × (b ≡ of_meet fault) × IsMeetFault before values fault) from left a
