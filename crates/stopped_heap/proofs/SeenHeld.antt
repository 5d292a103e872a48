-- What ephemerons hold in words that may have been written to.
use Rattle.std.proofs.Common.{◌≡◌, ℕ, zero, suc, ◌<◌, true, List, [], ◌∷◌, Contains, length, sym, subst, arith}
use Rattle.std.proofs.lemmas.Bool.{both_ways}
use Rattle.heap_layout.specs.declared.edition.Edition.{Edition}
use Rattle.heap_layout.specs.Bits.{bit}
use Rattle.heap_layout.specs.Heap.{from_address}
use Rattle.stopped_heap.specs.Ephemerons.{IsHeld, IsHeldFaultOf}
use Rattle.rest_marks.specs.Growing.{roots_on, AreReady, IsGrownIn, IsSeenFaultOf}
use Rattle.stopped_heap.specs.Growth.{IsSeenHeldFaultOf}
use Rattle.rest_marks.specs.Reached.{is_within, IsReachedFrom}
use Rattle.rest_marks.specs.Surveys.{marks_of}
use Rattle.rest_marks.specs.declared.fault.SurveyFault.{SurveyFault}
use Rattle.rest_marks.specs.declared.fault.SurveyFault.TheVariants.{TooLarge, BadRoot, BadReference, BadWeak, ObjectTooLong, ObjectPastEnd, Overlap, OutOfMemory}
use Rattle.rest_marks.proofs.Grown.{set-of}
use Rattle.stopped_heap.proofs.Held.{fault-held, fault-through, held-through}
use Rattle.rest_marks.proofs.Seen.{grown-ready}

-- tables that grew in the words that were seen are ready for words of as many
pub in-ready : (edition : Edition) (words seen queue heads bits : List ℕ) → IsGrownIn edition words seen queue heads bits → AreReady edition (length words) queue heads bits
in-ready edition words seen queue heads bits is = subst (λ (n : ℕ). AreReady edition n queue heads bits) is.alike.long (grown-ready edition seen queue heads bits is.grown)

-- a fault that marking from a value meets
pub seen-fault-held : (edition : Edition) (words seen marks ephemerons : List ℕ) (value : ℕ) (fault : SurveyFault) → length seen ≡ length words
    → is_within edition (length words) value ≡ true
    → ((i : ℕ) → IsReachedFrom edition seen (roots_on marks (value ∷ [])) i → IsHeld edition seen marks ephemerons (from_address i))
    → IsSeenFaultOf edition words seen marks (value ∷ []) fault → IsSeenHeldFaultOf edition words seen marks ephemerons fault
seen-fault-held edition words seen marks ephemerons value TooLarge long within held is =
    fault-held edition seen marks ephemerons value TooLarge (subst (λ (n : ℕ). is_within edition n value ≡ true) (sym long) within) held is
seen-fault-held edition words seen marks ephemerons value (BadRoot zero) long within held (_, is) = absurd (both_ways (is_within edition (length words) value) is.1 within)
seen-fault-held edition words seen marks ephemerons value (BadRoot (suc k)) long within held (_, is) = absurd (let lt : suc k < 1 = is.0 in omega (arith, lt))
seen-fault-held edition words seen marks ephemerons value (BadReference j) long within held is =
    fault-held edition seen marks ephemerons value (BadReference j) (subst (λ (n : ℕ). is_within edition n value ≡ true) (sym long) within) held is
seen-fault-held edition words seen marks ephemerons value (BadWeak j) long within held is =
    fault-held edition seen marks ephemerons value (BadWeak j) (subst (λ (n : ℕ). is_within edition n value ≡ true) (sym long) within) held is
seen-fault-held edition words seen marks ephemerons value (ObjectTooLong i) long within held is = (held i is.1, is.2)
seen-fault-held edition words seen marks ephemerons value (ObjectPastEnd i) long within held is = (held i is.1, is.2)
seen-fault-held edition words seen marks ephemerons value (Overlap i) long within held is =
    fault-held edition seen marks ephemerons value (Overlap i) (subst (λ (n : ℕ). is_within edition n value ≡ true) (sym long) within) held is
seen-fault-held edition words seen marks ephemerons value OutOfMemory long within held is = tt

-- the same fault, said of more objects that were marked before
pub seen-fault-through : (edition : Edition) (words seen marks others ephemerons : List ℕ) (fault : SurveyFault)
    → ((i : ℕ) → Contains marks i → IsHeld edition seen others ephemerons (from_address i))
    → IsSeenHeldFaultOf edition words seen marks ephemerons fault → IsSeenHeldFaultOf edition words seen others ephemerons fault
seen-fault-through edition words seen marks others ephemerons TooLarge each is = is
seen-fault-through edition words seen marks others ephemerons (BadRoot k) each is = is
seen-fault-through edition words seen marks others ephemerons (BadReference j) each is = fault-through edition seen marks others ephemerons (BadReference j) each is
seen-fault-through edition words seen marks others ephemerons (BadWeak j) each is = fault-through edition seen marks others ephemerons (BadWeak j) each is
seen-fault-through edition words seen marks others ephemerons (ObjectTooLong i) each is = (held-through edition seen marks others ephemerons each (from_address i) is.0, is.1)
seen-fault-through edition words seen marks others ephemerons (ObjectPastEnd i) each is = (held-through edition seen marks others ephemerons each (from_address i) is.0, is.1)
seen-fault-through edition words seen marks others ephemerons (Overlap i) each is = fault-through edition seen marks others ephemerons (Overlap i) each is
seen-fault-through edition words seen marks others ephemerons OutOfMemory each is = is

-- and of what an earlier step marked
pub seen-fault-then : (edition : Edition) (words seen first mid ephemerons : List ℕ) (fault : SurveyFault)
    → ((i : ℕ) → bit mid i ≡ true → IsHeld edition seen (marks_of first) ephemerons (from_address i)) → IsSeenHeldFaultOf edition words seen (marks_of mid) ephemerons fault
    → IsSeenHeldFaultOf edition words seen (marks_of first) ephemerons fault
seen-fault-then edition words seen first mid ephemerons fault before =
    seen-fault-through edition words seen (marks_of mid) (marks_of first) ephemerons fault (λ i there. before i (set-of mid i there))

-- where the words are those that were seen, it is one of them
pub held-fault-seen : (edition : Edition) (words marks ephemerons : List ℕ) (fault : SurveyFault) → IsSeenHeldFaultOf edition words words marks ephemerons fault
    → IsHeldFaultOf edition words marks ephemerons fault
held-fault-seen edition words marks ephemerons TooLarge is = is
held-fault-seen edition words marks ephemerons (BadRoot k) is = is
held-fault-seen edition words marks ephemerons (BadReference j) is = is
held-fault-seen edition words marks ephemerons (BadWeak j) is = is
held-fault-seen edition words marks ephemerons (ObjectTooLong i) is = is
held-fault-seen edition words marks ephemerons (ObjectPastEnd i) is = is
held-fault-seen edition words marks ephemerons (Overlap i) is = is
held-fault-seen edition words marks ephemerons OutOfMemory is = is
