-- The faults that marking meets are there.
use Rattle.std.proofs.Common.{◌≡◌, ◌≢◌, ℕ, ◌+◌, ◌<◌, ◌≤◌, eqb, true, false, List, length, get_or, take, drop, refl, sym, ap, subst, ◌∙◌, arith}
use Rattle.std.proofs.lemmas.Bool.{both_ways, eq-eqb}
use Rattle.std.proofs.lemmas.List.{get_or-take, get_or-drop, length-take}
use Rattle.std.proofs.lemmas.Map.Keys.{apart_from_distinct}
use Rattle.heap_layout.specs.declared.edition.Edition.{Edition}
use Rattle.heap_layout.specs.Bits.{bit}
use Rattle.heap_layout.specs.Header.{refs_of, weak_of}
use Rattle.heap_layout.specs.Heap.{header_at, object_at}
use Rattle.rest_marks.specs.Marks.{AreMarksFew, IsMarkingFaultOf, IsMarksFaultOf}
use Rattle.rest_marks.specs.Reached.{is_within, IsWordOf, IsReachedFrom, IsHeapFaultOf}
use Rattle.rest_marks.specs.declared.fault.MarksFault.{MarksFault}
use Rattle.rest_marks.specs.declared.fault.MarksFault.TheVariants as refusal
use Rattle.rest_marks.specs.declared.fault.SurveyFault.TheVariants.{BadReference, BadWeak, Overlap}
use Rattle.rest_marks.proofs.Reaching.{IsFollowed, reached-at}
use Rattle.rest_marks.proofs.Spread.{IsSpread}

-- a reference or weak word of an object leads nowhere
bad-field : (edition : Edition) (words from : List ℕ) (first count k : ℕ) → from ≡ take count (drop first words) → k < length from → is_within edition (length words) (get_or from k 0) ≡ false
    → (k < count) × (is_within edition (length words) (get_or words (first + k) 0) ≡ false)
bad-field edition words from first count k is lt nowhere =
    let long : length from ≤ count = omega (arith, ap length is, length-take count (drop first words)) in
    let short : k < count = omega (arith, lt, long) in
    let read : get_or from k 0 ≡ get_or words (first + k) 0 =
    ap (λ (xs : List ℕ). get_or xs k 0) is ∙ get_or-take count (drop first words) k 0 short ∙ get_or-drop first words k 0 in
    (short, subst (λ (w : ℕ). is_within edition (length words) w ≡ false) read nowhere)

pub bad-reference : (edition : Edition) (words roots from : List ℕ) (i k : ℕ) → IsReachedFrom edition words roots i → from ≡ (object_at edition words i).references
    → k < length from → is_within edition (length words) (get_or from k 0) ≡ false → IsHeapFaultOf edition words roots (BadReference (i + 1 + k))
bad-reference edition words roots from i k reached is lt nowhere =
    let at = bad-field edition words from (i + 1) (refs_of (header_at edition words i)) k is lt nowhere in
    (i, reached, k, at.0, refl, at.1)

pub bad-weak : (edition : Edition) (words roots from : List ℕ) (i refs k : ℕ) → IsReachedFrom edition words roots i → refs ≡ refs_of (header_at edition words i) → from ≡ (object_at edition words i).weak
    → k < length from → is_within edition (length words) (get_or from k 0) ≡ false → IsHeapFaultOf edition words roots (BadWeak (i + 1 + refs + k))
bad-weak edition words roots from i refs k reached same is lt nowhere =
    let at = bad-field edition words from (i + 1 + refs_of (header_at edition words i)) (weak_of (header_at edition words i)) k is lt nowhere in
    let place : i + 1 + refs_of (header_at edition words i) + k ≡ i + 1 + refs + k = omega (arith, same) in
    (i, reached, k, at.0, sym place, subst (λ (n : ℕ). is_within edition (length words) (get_or words n 0) ≡ false) place at.1)

-- a word of an object is that of one that was met before
pub overlapping : (edition : Edition) (words roots queue : List ℕ) (next : ℕ) (heads bits : List ℕ) (n : ℕ) → IsFollowed edition words roots queue next
    → IsSpread edition words queue next heads bits → next < length queue → IsWordOf edition words (get_or queue next 0) n → bit bits n ≡ true
    → IsHeapFaultOf edition words roots (Overlap (get_or queue next 0))
overlapping edition words roots queue next heads bits n followed spread within of set =
    let at = spread.only n set in
    let other : get_or queue at.0 0 ≢ get_or queue next 0 =
    λ same. both_ways (eqb (get_or queue at.0 0) (get_or queue next 0)) (apart_from_distinct eqb queue at.0 next 0 followed.objects.once at.1 within)
    (eq-eqb (get_or queue at.0 0) (get_or queue next 0) same) in (
      reached-at edition words roots queue next next followed within,
      get_or queue at.0 0,
      reached-at edition words roots queue next at.0 followed (omega (arith, at.1, within)),
      other,
      n,
      of,
      at.2,
    )

-- a fault that is met among marked objects, of words and roots that are not too many
pub marks-refused : (edition : Edition) (words roots heads : List ℕ) (fault : MarksFault) → AreMarksFew edition words roots heads
    → IsMarkingFaultOf edition words roots heads fault → IsMarksFaultOf edition words roots heads fault
marks-refused edition words roots heads refusal.TooLarge few is = absurd is
marks-refused edition words roots heads refusal.WrongLength few is = absurd is
marks-refused edition words roots heads (refusal.BadRoot k) few is = (few, is)
marks-refused edition words roots heads (refusal.ObjectTooLong i) few is = (few, is)
marks-refused edition words roots heads (refusal.ObjectPastEnd i) few is = (few, is)
marks-refused edition words roots heads (refusal.Overlap i) few is = (few, is)
marks-refused edition words roots heads (refusal.UnmarkedTarget j) few is = (few, is)
marks-refused edition words roots heads (refusal.BadWeak j) few is = (few, is)
marks-refused edition words roots heads refusal.OutOfMemory few is = few
