-- The marking of a heap by many threads, by handles: its words are lent at each call.
use Rattle.std.specs.Prelude.{◌≡◌, ◌≢◌, ℕ, ◌≤◌, ◌⊎◌, Bool, IsFalse, IsTrue, List, All, length, MatchOption, Option, None, Some}
use Rattle.heap_layout.specs.declared.edition.Edition.{Edition}
use Rattle.heap_layout.specs.Heap.{Heap, IsValue}
use Rattle.heap_layout.specs.Limits.{most_roots}
use Rattle.rest_marks.specs.Places.{Found, IsFoundOf}
use Rattle.mark_job.specs.Heads.{AreAmong}
use Rattle.mark_job.specs.Marking.{AreKept, AreMarked, IsBeginFaultOf, IsEndFaultOf, IsMeetFaultOf, LeadWithin, MayBegin}
use Rattle.mark_job.specs.Met.{Begun}
use Rattle.mark_job.specs.declared.marking_fault.MarkingEnd.{MarkingEnd}
use Rattle.mark_job.specs.declared.marking_fault.MarkingEnd.TheVariants as end
use Rattle.mark_job.specs.declared.marking_fault.MarkingFault.{MarkingFault}
use Rattle.mark_job.specs.declared.marking_fault.MarkingFault.TheVariants as begin
use Rattle.mark_job.specs.declared.marking_fault.MeetFault.{MeetFault}
use Rattle.mark_job.specs.declared.marking_fault.MeetFault.TheVariants as meet
use Rattle.handle_base.specs.Answers.{bare, done}
use Rattle.handle_base.specs.Statuses.{bad_edition, bad_object, bad_root, markers_busy, not_empty, out_of_memory, still_marking, still_shared, too_large, wrong_handle, wrong_length}
use Rattle.rest_handle.specs.ByBits.{of_bits}
use Rattle.handle_base.specs.HandleKinds.{marking_in, survey_in, Asks, Fills}
use Rattle.handle_base.specs.Knowing.{Knowing}
use Rattle.handle_base.specs.Making.{ByEdition}
use Rattle.handle_base.specs.declared.answer.Answer.{Answer}
use Rattle.handle_base.specs.declared.kept.Kept.{Kept}

-- no marking of a heap of edition n began
abbrev pub of_begin : ℕ → MarkingFault → Answer
of_begin n begin.TooLarge = bare too_large 0
of_begin n begin.ShortObjects = bare bad_edition n
of_begin n (begin.BadRoot k) = bare bad_root k
of_begin n begin.OutOfMemory = bare out_of_memory 0

-- values were not met by many
abbrev pub of_meeting : MeetFault → Answer
of_meeting (meet.BadValue k) = bare bad_root k
of_meeting meet.Busy = bare markers_busy 0
of_meeting meet.OutOfMemory = bare out_of_memory 0

-- a marking did not end
abbrev pub of_ending : MarkingEnd → Answer
of_ending end.Waiting = bare still_marking 0
of_ending end.NoMemory = bare out_of_memory 0
of_ending (end.BadObject i) = bare bad_object i
of_ending (end.Bits fault) = of_bits 0 fault

-- the handle knows that the objects are met with which the marking began
abbrev pub KnowsBegun : Begun → Knowing → Type 0
KnowsBegun begun m = (m.begun ≡ begun) × AreAmong begun.met m.known.bits

-- The marking is of a heap of this edition and so many words, and may begin with these roots. It began with the objects
-- to which they lead.
pub record IsBegunWith (edition : Edition) (count : ℕ) (roots : List ℕ) (begun : Begun) : Type 0 where
  pub edition_is : begun.edition ≡ edition
  pub count_is : begun.count ≡ count
  pub may_begin : MayBegin edition count roots
  pub met : AreMarked count roots begun.met

-- the handle keeps a marking that began, and knows with what; or it keeps nothing, and the answer says why
abbrev pub BeginsMarkingOf : ℕ → ℕ → List ℕ → Option Kept → Answer → Edition → Type 0
BeginsMarkingOf n count roots now a edition =
    ((m : Knowing) × (marking_in now ≡ Some m) × IsBegunWith edition count roots m.begun × KnowsBegun m.begun m × (a ≡ done 0))
    ⊎ ((now ≡ None) × ((fault : MarkingFault) × (a ≡ of_begin n fault) × IsBeginFaultOf edition count roots fault))

-- a marking of a heap of edition n and so many words
abbrev pub BeginsMarking : ℕ → ℕ → List ℕ → Option Kept → Option Kept → Answer → Type 0
BeginsMarking n count roots old new a =
    Fills 0 (λ now b. ByEdition n (BeginsMarkingOf n count roots now b) now b) (Unit {0}) old new a

-- the handle keeps a share of this marking, and knows with what it began
abbrev pub KeepsMarking : Begun → Option Kept → Type 0
KeepsMarking begun now = (m : Knowing) × (marking_in now ≡ Some m) × KnowsBegun begun m

-- the second handle, which was empty, keeps a share of the same marking then, or there is no memory
abbrev pub SharesMarking : Option Kept → Option Kept → Option Kept → Answer → Type 0
SharesMarking from to new a =
    Asks 0 marking_in (λ m b. Fills 1 (λ now c. (KeepsMarking m.begun now × (c ≡ done 0)) ⊎ ((now ≡ None) × (c ≡ bare out_of_memory 0))) (Unit {0}) to new b)
    (new ≡ to) from a

-- The answer of a helper with so many words: 0 if nothing is left to help with, 1 if it looked at some objects, 2 if
-- others have those that wait; or these are not as many words as the marking is of.
abbrev pub HelpsMarking : ℕ → Knowing → Answer → Type 0
HelpsMarking many m a =
    ((many ≡ m.begun.count) × ((a ≡ done 0) ⊎ (a ≡ done 1) ⊎ (a ≡ done 2)))
    ⊎ ((many ≢ m.begun.count) × (a ≡ bare wrong_length 0))

-- the same marking goes on, and the handle knows of the objects of which it knew
pub record KnowsMore (before after : Knowing) : Type 0 where
  pub begun_is : after.begun ≡ before.begun
  pub table_is : after.known.table ≡ before.known.table
  pub stay : AreAmong before.known.bits after.known.bits

-- The values lead to no word outside, and the handle knows that the objects are met to which they lead; or the answer
-- says why not.
abbrev pub IsMeeting : List ℕ → Knowing → Knowing → Answer → Type 0
IsMeeting values before after a =
    ((a ≡ done 0) × LeadWithin before.begun.edition before.begun.count values × AreMarked before.begun.count values after.known.bits)
    ⊎ ((fault : MeetFault) × (a ≡ of_meeting fault) × IsMeetFaultOf before.begun.edition before.begun.count values fault)

abbrev pub Meets : List ℕ → Knowing → Knowing → Answer → Type 0
Meets values before after a = KnowsMore before after × IsMeeting values before after a

-- the same of the marking that the handle keeps; or it keeps none, and stays
abbrev pub MeetsMarking : List ℕ → Option Kept → Option Kept → Answer → Type 0
MeetsMarking values from left a =
    Asks 0 marking_in (λ m b. (after : Knowing) × (marking_in left ≡ Some after) × Meets values m after b) (left ≡ from) from a

-- why a marking stays that is to end, given whether the handle of the survey is full: another handle keeps a share of
-- it
abbrev pub IsUnendedMarking : Bool → Kept → Answer → Type 0
IsUnendedMarking full k a =
    MatchOption (marking_in (Some k)) (a ≡ bare wrong_handle 0) (λ m. (IsTrue full × (a ≡ bare not_empty 1)) ⊎ (IsFalse full × (a ≡ bare still_shared 0)))

-- This was found by a marking: it is found of some heap, the roots lead to its marked objects, and marked are the
-- objects with which the marking began, and those of which its last handle knows that they were met.
pub record IsFoundBy (m : Knowing) (roots : List ℕ) (found : Found) : Type 0 where
  pub edition_is : found.edition ≡ m.begun.edition
  pub count_is : found.count ≡ m.begun.count
  pub some_heap : (heap : Heap) × IsFoundOf found heap
  pub few_roots : length roots ≤ most_roots m.begun.edition
  pub roots_lead : All (IsValue found.edition found.marks) roots
  pub begun : AreKept m.begun.count m.begun.met found.marks
  pub met : AreKept m.begun.count m.known.bits found.marks

-- the handle keeps what was found, and the answer has the number of live words; or it keeps nothing, and the answer
-- says why
abbrev pub EndsMarking : List ℕ → Knowing → Option Kept → Answer → Type 0
EndsMarking roots m now a =
    ((found : Found) × (survey_in now ≡ Some found) × IsFoundBy m roots found × (a ≡ done (length found.indices)))
    ⊎ ((now ≡ None) × ((fault : MarkingEnd) × (a ≡ of_ending fault) × IsEndFaultOf m.begun.edition roots fault))
