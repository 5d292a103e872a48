-- A marking by several markers while threads go on. Each has a lane: what it met and looked at itself.
use Rattle.std.specs.Prelude.{◌≡◌, ℕ, ◌+◌, ◌<◌, ◌≤◌, ◌⊎◌, true, false, List, [], length, slice_index, slice_index_or}
use Rattle.heap_layout.specs.declared.edition.Edition.{Edition}
use Rattle.heap_layout.specs.Bits.{bit}
use Rattle.heap_layout.specs.Header.{refs_of, weak_of}
use Rattle.heap_layout.specs.Heap.{from_address, header_at, object_at}
use Rattle.heap_layout.specs.Limits.{most_words}
use Rattle.rest_marks.specs.LookFaults.{IsPlacingFault, IsWordOfRows}
use Rattle.rest_marks.specs.Looks.{AreLookedAt, Looking}
use Rattle.rest_marks.specs.Reached.{is_within}
use Rattle.rest_marks.specs.declared.fault.JoinFault.{JoinFault}
use Rattle.rest_marks.specs.declared.fault.JoinFault.TheVariants.{OtherHeap, Overlap as JoinOverlap, OutOfMemory as JoinMemory}
use Rattle.rest_marks.specs.declared.fault.LookFault.{LookFault}
use Rattle.rest_marks.specs.declared.fault.LookFault.TheVariants.{NoSuchObject, ShortRun, ObjectTooLong, ObjectPastEnd, Overlap, BadReference, BadWeak, OutOfMemory as NoMemory}
use Rattle.rest_marks.specs.declared.fault.MeetFault.{MeetFault}
use Rattle.rest_marks.specs.declared.fault.MeetFault.TheVariants.{BadValue, OutOfMemory}
use Rattle.rest_marks.specs.declared.fault.SurveyFault.{SurveyFault}
use Rattle.rest_marks.specs.declared.queue.Stop.{Stop}
use Rattle.rest_marks.specs.declared.queue.Stop.TheVariants.{Memory, Stray}
use Rattle.rest_marks.specs.declared.fault.SurveyFault.TheVariants as survey

-- What one of several markers met and looked at itself, and of which objects it knows that they were met.
pub record Laned : Type 0 where
  pub own : Looking
  pub known : List ℕ

-- a lane, by its parts
abbrev pub laned : Edition → ℕ → List ℕ → ℕ → List ℕ → List ℕ → List ℕ → Laned
laned edition count met looked heads bits known =
    record {
      own = record { edition = edition; count = count; met = met; looked = looked; heads = heads; bits = bits };
      known = known;
    }

-- As they are in these words, the objects at which the lane looked are as they must be; their references lead to known
-- objects.
abbrev pub AreLanedIn : Laned → List ℕ → Type 0
AreLanedIn lane words = AreLookedAt lane.own.edition words lane.own.met lane.own.looked lane.known lane.own.bits

-- what was known stays known
abbrev pub AreKnownMore : Laned → Laned → Type 0
AreKnownMore before after = (i : ℕ) → bit before.known i ≡ true → bit after.known i ≡ true

-- ---- what a lane is told

-- one of these values leads to the object at index i, that of one of `count` words
abbrev pub IsLedTo : ℕ → List ℕ → ℕ → Type 0
IsLedTo count values i = (i < count) × (k : ℕ) × (k < length values) × (slice_index values k ≡ from_address i)

-- a reference of one of the first k of these rows does
abbrev pub IsLedToByRows : Edition → ℕ → List (List ℕ) → ℕ → ℕ → Type 0
IsLedToByRows edition count rows k i = (l : ℕ) × (l < k) × IsLedTo count (object_at edition (slice_index_or rows l []) 0).references i

-- What a lane met and knows after it was told of objects, of which `led` says: those that it met before keep their
-- places, what it knew stays known, and whatever it knows more, or met more, is one of them that it did not know.
pub record IsTold (led : ℕ → Type 0) (old_met old_known met known : List ℕ) : Type 0 where
  pub stay : (k : ℕ) → k < length old_met → (k < length met) × (slice_index met k ≡ slice_index old_met k)
  pub more : (i : ℕ) → bit old_known i ≡ true → bit known i ≡ true
  pub told : (i : ℕ) → bit known i ≡ true → (bit old_known i ≡ true) ⊎ led i
  pub claimed : (k : ℕ) → length old_met ≤ k → k < length met
      → (bit old_known (slice_index met k) ≡ false) × led (slice_index met k)

-- ---- faults

-- why a lane of so many words is not begun
abbrev pub IsBeginFault : Edition → ℕ → SurveyFault → Type 0
IsBeginFault edition count survey.TooLarge = most_words edition < count
IsBeginFault edition count (survey.BadRoot k) = ⊥
IsBeginFault edition count (survey.BadReference j) = ⊥
IsBeginFault edition count (survey.BadWeak j) = ⊥
IsBeginFault edition count (survey.ObjectTooLong i) = ⊥
IsBeginFault edition count (survey.ObjectPastEnd i) = ⊥
IsBeginFault edition count (survey.Overlap i) = ⊥
IsBeginFault edition count survey.OutOfMemory = count ≤ most_words edition

-- one of these values leads to an object that is not known
abbrev pub IsLedToUnknown : ℕ → List ℕ → List ℕ → Type 0
IsLedToUnknown count known values = (i : ℕ) × IsLedTo count values i × (bit known i ≡ false)

-- memory ran out only if one of these values leads to an object that is not known
abbrev pub IsLack : ℕ → List ℕ → List ℕ → Stop → Type 0
IsLack count known values Memory = IsLedToUnknown count known values
IsLack count known values (Stray k) = Unit {0}

-- why the objects to which these values lead are not met: memory runs out only if one of them was not known
abbrev pub IsLaneMeetFault : Laned → List ℕ → MeetFault → Type 0
IsLaneMeetFault lane values (BadValue k) =
    (k < length values) × (is_within lane.own.edition lane.own.count (slice_index values k) ≡ false)
IsLaneMeetFault lane values OutOfMemory = IsLedToUnknown lane.own.count lane.known values

-- The references and weak words of the object at index i were not handed in, or do not lead to words. Memory runs out
-- only if they were, and if one of its references leads to an object that is not known.
abbrev pub IsLaneFieldsFault : Edition → ℕ → List ℕ → ℕ → List ℕ → LookFault → Type 0
IsLaneFieldsFault edition count known i run NoSuchObject = ⊥
IsLaneFieldsFault edition count known i run (ShortRun n) =
    (length run < n) × ((n ≡ 1) ⊎ (n ≡ 1 + refs_of (header_at edition run 0) + weak_of (header_at edition run 0)))
IsLaneFieldsFault edition count known i run (ObjectTooLong k) = ⊥
IsLaneFieldsFault edition count known i run (ObjectPastEnd k) = ⊥
IsLaneFieldsFault edition count known i run (Overlap k) = ⊥
IsLaneFieldsFault edition count known i run (BadReference j) =
    (f : ℕ) × (f < refs_of (header_at edition run 0)) × (j ≡ i + 1 + f) × (is_within edition count (slice_index run (1 + f)) ≡ false)
IsLaneFieldsFault edition count known i run (BadWeak j) =
    (f : ℕ) × (f < weak_of (header_at edition run 0)) × (j ≡ i + 1 + refs_of (header_at edition run 0) + f)
    × (is_within edition count (slice_index run (1 + refs_of (header_at edition run 0) + f)) ≡ false)
IsLaneFieldsFault edition count known i run NoMemory =
    (1 + refs_of (header_at edition run 0) + weak_of (header_at edition run 0) ≤ length run)
    × IsLedToUnknown count known (object_at edition run 0).references

-- why a lane does not look at its next object that waits
abbrev pub IsLaneLookFault : Laned → List ℕ → LookFault → Type 0
IsLaneLookFault lane run fault =
    ((fault ≡ NoSuchObject) × (length lane.own.met ≤ lane.own.looked))
    ⊎ ((lane.own.looked < length lane.own.met)
    × (IsPlacingFault lane.own.edition lane.own.count lane.own.bits (slice_index lane.own.met lane.own.looked) run fault
    ⊎ IsLaneFieldsFault lane.own.edition lane.own.count lane.known (slice_index lane.own.met lane.own.looked) run fault))

-- What a lane is after it looked at the first k of these rows. Which of the objects that it was told of it claimed is
-- not said.
pub record IsLaneAfterRows (lane : Laned) (rows : List (List ℕ)) (k : ℕ) (after : Laned) : Type 0 where
  pub edition : after.own.edition ≡ lane.own.edition
  pub count : after.own.count ≡ lane.own.count
  pub looked : after.own.looked ≡ lane.own.looked + k
  pub told : IsTold (IsLedToByRows lane.own.edition lane.own.count rows k) lane.own.met lane.known after.own.met after.known
  pub set : (j : ℕ) → bit lane.own.bits j ≡ true → bit after.own.bits j ≡ true
  pub words : (j : ℕ) → IsWordOfRows lane.own.edition after.own.met lane.own.looked rows k j → bit after.own.bits j ≡ true
  pub only : (j : ℕ) → bit after.own.bits j ≡ true
      → (bit lane.own.bits j ≡ true) ⊎ IsWordOfRows lane.own.edition after.own.met lane.own.looked rows k j

-- why these rows are not looked at: one of them is not, after those before it were
abbrev pub IsLaneRowsFault : Laned → List (List ℕ) → LookFault → Type 0
IsLaneRowsFault lane rows fault =
    (k : ℕ) × (k < length rows)
    × (after : Laned) × IsLaneAfterRows lane rows k after × IsLaneLookFault after (slice_index_or rows k []) fault

-- Why two lanes are not joined: they are not of heaps of one edition and of as many words; both have the object at
-- index i, or both looked at one with the word at index i; or memory ran out.
abbrev pub IsJoinFault : Laned → Laned → JoinFault → Type 0
IsJoinFault one other OtherHeap = (one.own.edition ≡ other.own.edition → one.own.count ≡ other.own.count → ⊥)
IsJoinFault one other (JoinOverlap i) =
    (one.own.edition ≡ other.own.edition) × (one.own.count ≡ other.own.count)
    × (((bit one.own.heads i ≡ true) × (bit other.own.heads i ≡ true)) ⊎ ((bit one.own.bits i ≡ true) × (bit other.own.bits i ≡ true)))
IsJoinFault one other JoinMemory = (one.own.edition ≡ other.own.edition) × (one.own.count ≡ other.own.count)
