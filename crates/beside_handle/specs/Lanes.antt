-- The lanes of a marking by several markers, by handles. Each is a fact of what a lane was before it and is after it.
use Rattle.std.specs.Prelude.{◌≡◌, ◌≢◌, ℕ, ◌+◌, ◌-◌, ◌<◌, ◌≤◌, ◌⊎◌, ◌++◌, false, true, min, List, [], drop, length, slice_index, take, Option, None, Some}
use Rattle.heap_layout.specs.declared.edition.Edition.{Edition}
use Rattle.heap_layout.specs.Bits.{bit}
use Rattle.heap_layout.specs.Limits.{most_object_words, most_words}
use Rattle.rest_marks.specs.Checks.{IsCheckFault}
use Rattle.rest_marks.specs.LaneParts.{joined_met, met_at, AreBoth, IsMissingOf, IsTakeFault}
use Rattle.rest_marks.specs.Lanes.{AreKnownMore, AreLanedIn, IsBeginFault, IsJoinFault, IsLaneAfterRows, IsLaneMeetFault, IsLaneRowsFault, IsLedTo, IsTold, Laned}
use Rattle.rest_marks.specs.Looks.{rows_of, AreLooked, AreRowsAt, Looking}
use Rattle.rest_marks.specs.Marks.{AllKept}
use Rattle.rest_marks.specs.declared.fault.CheckFault.{CheckFault}
use Rattle.rest_marks.specs.declared.fault.CheckFault.TheVariants as check
use Rattle.rest_marks.specs.declared.fault.JoinFault.{JoinFault}
use Rattle.rest_marks.specs.declared.fault.JoinFault.TheVariants as join
use Rattle.rest_marks.specs.declared.fault.LookFault.{LookFault}
use Rattle.rest_marks.specs.declared.fault.MeetFault.{MeetFault}
use Rattle.rest_marks.specs.declared.fault.Missing.{Missing}
use Rattle.rest_marks.specs.declared.fault.SurveyFault.{SurveyFault}
use Rattle.handle_base.specs.Answers.{bare, done, of_survey}
use Rattle.handle_base.specs.Statuses.{bad_edition, bad_weak, changed, missing_object, not_a_run, other_heap, out_of_memory, overlap, unmarked, wrong_length}
use Rattle.handle_base.specs.HandleKinds.{lane_in, looks_in, Asks, Fills}
use Rattle.beside_handle.specs.Looking.{of_look, of_meet}
use Rattle.beside_handle.specs.Looks.{SaysWaiting}
use Rattle.handle_base.specs.Making.{ByEdition}
use Rattle.handle_base.specs.declared.answer.Answer.{Answer}
use Rattle.handle_base.specs.declared.kept.Kept.{Kept}

-- two lanes were not joined
abbrev pub of_join : JoinFault → Answer
of_join join.OtherHeap = bare other_heap 0
of_join (join.Overlap i) = bare overlap i
of_join join.OutOfMemory = bare out_of_memory 0

-- the objects at which a marking looked are not as they must be
abbrev pub of_check : CheckFault → Answer
of_check check.WrongLength = bare wrong_length 0
of_check (check.Changed i) = bare changed i
of_check (check.Unmarked i) = bare unmarked i
of_check (check.BadWeak i) = bare bad_weak i
of_check (check.Unowned i) = bare not_a_run i
of_check check.OutOfMemory = bare out_of_memory 0

-- A lane that met nothing, of a heap of this edition and so many words. So it is right of any words.
pub record IsEmptyLane (edition : Edition) (count : ℕ) (lane : Laned) : Type 0 where
  pub edition_is : lane.own.edition ≡ edition
  pub count_is : lane.own.count ≡ count
  pub none : lane.own.looked ≡ 0
  pub met : lane.own.met ≡ []
  pub known : (i : ℕ) → bit lane.known i ≡ false
  pub looked : (words : List ℕ) → AreLanedIn lane words

-- the handle keeps a lane that met nothing
abbrev pub KeepsEmptyLane : Edition → ℕ → Option Kept → Type 0
KeepsEmptyLane edition count now = (lane : Laned) × (lane_in now ≡ Some lane) × IsEmptyLane edition count lane

-- the same; or it keeps nothing, and the answer says why
abbrev pub BeginsLaneIn : Edition → ℕ → Option Kept → Answer → Type 0
BeginsLaneIn edition count now a =
    (KeepsEmptyLane edition count now × (a ≡ done 0))
    ⊎ ((now ≡ None) × ((fault : SurveyFault) × (a ≡ of_survey fault) × IsBeginFault edition count fault))

-- the same of the edition of number n, unless it has short objects
abbrev pub BeginsLaneOf : ℕ → ℕ → Option Kept → Answer → Edition → Type 0
BeginsLaneOf n count now a edition =
    ((most_words edition ≤ most_object_words edition) × BeginsLaneIn edition count now a)
    ⊎ ((most_object_words edition < most_words edition) × (now ≡ None) × (a ≡ bare bad_edition n))

-- the first lane of a marking of a heap of edition n and so many words
abbrev pub BeginsLane : ℕ → ℕ → Option Kept → Option Kept → Answer → Type 0
BeginsLane n count old new a = Fills 0 (λ now b. ByEdition n (BeginsLaneOf n count now b) now b) (Unit {0}) old new a

-- the second handle, which was empty, keeps a lane of the same marking that met nothing, or there is no memory
abbrev pub SharesLane : Option Kept → Option Kept → Option Kept → Answer → Type 0
SharesLane from to new a =
    Asks 0 lane_in (λ lane b. Fills 1 (λ now c. (KeepsEmptyLane lane.own.edition lane.own.count now × (c ≡ done 0)) ⊎ ((now ≡ None) × (c ≡ bare out_of_memory 0)))
    (Unit {0}) to new b) (new ≡ to) from a

-- what stays of a lane in each step: the edition, the number of words, what was met, in its order, and what was known
pub record LaneGoesOn (before after : Laned) : Type 0 where
  pub edition_is : after.own.edition ≡ before.own.edition
  pub count_is : after.own.count ≡ before.own.count
  pub stay : (k : ℕ) → k < length before.own.met → slice_index after.own.met k ≡ slice_index before.own.met k
  pub more : AreKnownMore before after

-- the objects to which these values lead are known
pub record HasMetInLane (values : List ℕ) (before after : Laned) : Type 0 where
  pub goes_on : LaneGoesOn before after
  pub many : after.own.looked ≡ before.own.looked
  pub known : AllKept before.own.edition after.known values
  pub told : IsTold (IsLedTo before.own.count values) before.own.met before.known after.own.met after.known
  pub looked : (words : List ℕ) → AreLanedIn before words → AreLanedIn after words

-- The next objects that waited were looked at, one for each row.
pub record HasLookedInLane (rows : List ℕ) (before after : Laned) : Type 0 where
  pub goes_on : LaneGoesOn before after
  pub waited : after.own.looked ≤ length after.own.met
  pub after_rows : IsLaneAfterRows before (rows_of before.own.edition rows) (length (rows_of before.own.edition rows)) after
  pub looked : (words : List ℕ) → length words ≡ before.own.count
      → AreRowsAt words after.own.met before.own.looked (rows_of before.own.edition rows)
      → AreLanedIn before words → AreLanedIn after words

-- the objects at these indices wait, those that the lane had not, and are known
pub record HasTaken (indices : List ℕ) (before after : Laned) : Type 0 where
  pub goes_on : LaneGoesOn before after
  pub many : after.own.looked ≡ before.own.looked
  pub met : after.own.met ≡ met_at before.own.met indices
  pub has : (k : ℕ) → k < length indices → bit after.own.heads (slice_index indices k) ≡ true
  pub knows : (k : ℕ) → k < length indices → bit after.known (slice_index indices k) ≡ true
  pub looked : (words : List ℕ) → AreLanedIn before words → AreLanedIn after words

-- The last n of the objects that wait are no longer the lane's own, which knows them still. Their indices are in the
-- array.
pub record HasGiven (n : ℕ) (old new : List ℕ) (before after : Laned) : Type 0 where
  pub many : n ≡ min (length before.own.met - before.own.looked) (length old)
  pub met : after.own.met ≡ take (length before.own.met - n) before.own.met
  pub indices : new ≡ drop (length before.own.met - n) before.own.met ++ drop n old
  pub edition_is : after.own.edition ≡ before.own.edition
  pub count_is : after.own.count ≡ before.own.count
  pub looked_at : after.own.looked ≡ before.own.looked
  pub known : after.known ≡ before.known
  pub looked : (words : List ℕ) → AreLanedIn before words → AreLanedIn after words

-- P of the lane before and after, which the handle keeps still; or the lane ended, its handle is empty, and Q
abbrev pub StepsLaneOn : (Laned → Laned → Answer → Type 0) → (Laned → Answer → Type 0) → Option Kept → Laned → Answer → Type 0
StepsLaneOn P Q left lane a =
    ((after : Laned) × (lane_in left ≡ Some after) × P lane after a) ⊎ ((left ≡ None) × Q lane a)

-- the same of the lane that the handle keeps; or it keeps none, and stays
abbrev pub StepsLane : (Laned → Laned → Answer → Type 0) → (Laned → Answer → Type 0) → Option Kept → Option Kept → Answer → Type 0
StepsLane P Q from left a = Asks 0 lane_in (StepsLaneOn P Q left) (left ≡ from) from a

-- the objects to which these values lead are met; or the answer says why not
abbrev pub MeetsInLane : List ℕ → Option Kept → Option Kept → Answer → Type 0
MeetsInLane values from left a =
    StepsLane (λ before after b. HasMetInLane values before after × SaysWaiting after.own b)
    (λ before b. (fault : MeetFault) × (b ≡ of_meet fault) × IsLaneMeetFault before values fault) from left a

-- the next objects that wait are looked at; or the answer says why not
abbrev pub LooksInLane : List ℕ → Option Kept → Option Kept → Answer → Type 0
LooksInLane rows from left a =
    StepsLane (λ before after b. HasLookedInLane rows before after × SaysWaiting after.own b)
    (λ before b. (fault : LookFault) × (b ≡ of_look fault) × IsLaneRowsFault before (rows_of before.own.edition rows) fault)
    from left a

-- the objects at these indices are taken over; or the answer says why not
abbrev pub TakesInLane : List ℕ → Option Kept → Option Kept → Answer → Type 0
TakesInLane indices from left a =
    StepsLane (λ before after b. HasTaken indices before after × SaysWaiting after.own b)
    (λ before b. (fault : MeetFault) × (b ≡ of_meet fault) × IsTakeFault before.own.count before.own.heads indices fault)
    from left a

-- objects that wait are given away; the answer has their number
abbrev pub GivesInLane : List ℕ → List ℕ → Option Kept → Option Kept → Answer → Type 0
GivesInLane old new from left a =
    Asks 0 lane_in (λ before b. (n : ℕ) × (after : Laned) × (lane_in left ≡ Some after) × HasGiven n old new before after × (b ≡ done n))
    ((left ≡ from) × (new ≡ old)) from a

-- two lanes are one
pub record HasJoined (one other joined : Laned) : Type 0 where
  pub edition_is : joined.own.edition ≡ one.own.edition
  pub count_is : joined.own.count ≡ one.own.count
  pub other_edition : other.own.edition ≡ one.own.edition
  pub other_count : other.own.count ≡ one.own.count
  pub met : joined.own.met ≡ joined_met one.own.met one.own.looked other.own.met other.own.looked
  pub many : joined.own.looked ≡ one.own.looked + other.own.looked
  pub known : AreBoth one.known other.known joined.known
  pub heads : AreBoth one.own.heads other.own.heads joined.own.heads
  pub bits : AreBoth one.own.bits other.own.bits joined.own.bits
  pub looked : (words : List ℕ) → AreLanedIn one words → AreLanedIn other words → AreLanedIn joined words

-- The second lane goes. The first handle keeps both, as one; or it is empty too, and the answer says why.
abbrev pub JoinsOf : Laned → Laned → Option Kept → Option Kept → Answer → Type 0
JoinsOf one other left new a =
    (new ≡ None) × (((joined : Laned) × (lane_in left ≡ Some joined) × HasJoined one other joined × SaysWaiting joined.own a)
    ⊎ ((left ≡ None) × ((fault : JoinFault) × (a ≡ of_join fault) × IsJoinFault one other fault)))

-- the same for what the handles keep
abbrev pub JoinsLanes : Option Kept → Option Kept → Option Kept → Option Kept → Answer → Type 0
JoinsLanes from left to new a =
    Asks 0 lane_in (λ one b. Asks 1 lane_in (λ other c. JoinsOf one other left new c) ((left ≡ from) × (new ≡ to)) to b)
    ((left ≡ from) × (new ≡ to)) from a

-- The second handle keeps the whole marking, which is right of the words of which the lane is; or it keeps nothing, and
-- the answer has an object that no lane has.
abbrev pub MakesWhole : Laned → Option Kept → Answer → Type 0
MakesWhole lane now a =
    ((looks_in now ≡ Some lane.own) × ((words : List ℕ) → AreLanedIn lane words → AreLooked lane.own words) × SaysWaiting lane.own a)
    ⊎ ((now ≡ None) × ((missing : Missing) × (a ≡ bare missing_object missing.0) × IsMissingOf lane missing))

-- the same for what the handles keep; the lane goes
abbrev pub WholesLane : Option Kept → Option Kept → Option Kept → Option Kept → Answer → Type 0
WholesLane from left to new a =
    Asks 0 lane_in (λ lane b. Fills 1 (λ now c. (left ≡ None) × MakesWhole lane now c) (left ≡ from) to new b)
    ((left ≡ from) × (new ≡ to)) from a

-- all objects that were looked at are, in these words, as they must be; or the answer says why not
abbrev pub Checks : List ℕ → Looking → Answer → Type 0
Checks words looks a =
    ((a ≡ done 0) × AreLooked looks words) ⊎ ((fault : CheckFault) × (a ≡ of_check fault) × IsCheckFault looks words fault)
