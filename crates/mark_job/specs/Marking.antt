-- The marking of a heap whose words are lent at each call.
use Rattle.std.specs.Prelude.{◌≡◌, ℕ, ◌<◌, ◌≤◌, ◌⊎◌, true, false, List, length, slice_index, Contains}
use Rattle.heap_layout.specs.declared.edition.Edition.{Edition}
use Rattle.heap_layout.specs.Bits.{bit}
use Rattle.heap_layout.specs.Heap.{from_address}
use Rattle.heap_layout.specs.Limits.{most_words, most_roots, most_object_words}
use Rattle.heap_layout.specs.Values.{leads_nowhere}
use Rattle.rest_marks.specs.Reached.{is_within}
use Rattle.rest_marks.specs.declared.fault.BitsFault.{BitsFault}
use Rattle.rest_marks.specs.declared.fault.BitsFault.TheVariants as given
use Rattle.mark_job.specs.declared.marking_fault.MarkingFault.{MarkingFault}
use Rattle.mark_job.specs.declared.marking_fault.MarkingFault.TheVariants as begin
use Rattle.mark_job.specs.declared.marking_fault.MeetFault.{MeetFault}
use Rattle.mark_job.specs.declared.marking_fault.MeetFault.TheVariants as meet
use Rattle.mark_job.specs.declared.marking_fault.MarkingEnd.{MarkingEnd}
use Rattle.mark_job.specs.declared.marking_fault.MarkingEnd.TheVariants as end

-- the objects at `count` words to which the first n of these words lead are among those whose bits are set
abbrev pub AreMarkedTo : ℕ → List ℕ → ℕ → List ℕ → Type 0
AreMarkedTo count from n bits =
    (k i : ℕ) → k < n → i < count → slice_index from k ≡ from_address i → bit bits i ≡ true

-- the same of all these words
abbrev pub AreMarked : ℕ → List ℕ → List ℕ → Type 0
AreMarked count from bits = AreMarkedTo count from (length from) bits

-- the objects at `count` words whose bits are set are among the marked ones
abbrev pub AreKept : ℕ → List ℕ → List ℕ → Type 0
AreKept count bits marks = (i : ℕ) → i < count → bit bits i ≡ true → Contains marks i

-- word k of these is neither null nor the address of one of `count` words, nor an immediate
abbrev pub LeadsAstray : Edition → ℕ → List ℕ → ℕ → Type 0
LeadsAstray edition count from k = (k < length from) × (is_within edition count (slice_index from k) ≡ false)

-- each of these words is null, the address of one of `count` words, or an immediate
abbrev pub LeadWithin : Edition → ℕ → List ℕ → Type 0
LeadWithin edition count from = (k : ℕ) → k < length from → is_within edition count (slice_index from k) ≡ true

-- A marking of so many words may begin with these roots.
pub record MayBegin (edition : Edition) (count : ℕ) (roots : List ℕ) : Type 0 where
  pub few_words : count ≤ most_words edition
  pub few_roots : length roots ≤ most_roots edition
  pub long_objects : most_words edition ≤ most_object_words edition
  pub within : LeadWithin edition count roots

-- why no marking begins
abbrev pub IsBeginFaultOf : Edition → ℕ → List ℕ → MarkingFault → Type 0
IsBeginFaultOf edition count roots begin.TooLarge = (most_words edition < count) ⊎ (most_roots edition < length roots)
IsBeginFaultOf edition count roots begin.ShortObjects = most_object_words edition < most_words edition
IsBeginFaultOf edition count roots (begin.BadRoot k) = LeadsAstray edition count roots k
IsBeginFaultOf edition count roots begin.OutOfMemory = Unit {0}

-- why these values are not met
abbrev pub IsMeetFaultOf : Edition → ℕ → List ℕ → MeetFault → Type 0
IsMeetFaultOf edition count values (meet.BadValue k) = LeadsAstray edition count values k
IsMeetFaultOf edition count values meet.Busy = Unit {0}
IsMeetFaultOf edition count values meet.OutOfMemory = Unit {0}

-- why the bits are not taken
abbrev pub IsTakingFaultOf : Edition → List ℕ → BitsFault → Type 0
IsTakingFaultOf edition roots given.TooLarge = most_roots edition < length roots
IsTakingFaultOf edition roots given.ShortObjects = ⊥
IsTakingFaultOf edition roots given.WrongLength = ⊥
IsTakingFaultOf edition roots (given.BadRoot k) = (k < length roots) × (leads_nowhere edition (slice_index roots k) ≡ false)
IsTakingFaultOf edition roots (given.NotARun i) = Unit {0}
IsTakingFaultOf edition roots (given.PastEnd i) = Unit {0}
IsTakingFaultOf edition roots given.OutOfMemory = Unit {0}

-- Why a marking does not end with these roots. What the helpers did is not known, but a root that is refused may lead
-- to an object, and there are too many roots only if it is so.
abbrev pub IsEndFaultOf : Edition → List ℕ → MarkingEnd → Type 0
IsEndFaultOf edition roots end.Waiting = Unit {0}
IsEndFaultOf edition roots end.NoMemory = Unit {0}
IsEndFaultOf edition roots (end.BadObject i) = Unit {0}
IsEndFaultOf edition roots (end.Bits fault) = IsTakingFaultOf edition roots fault
