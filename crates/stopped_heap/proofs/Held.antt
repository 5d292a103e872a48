-- Values that are kept as long as their keys are.
use Rattle.std.proofs.Common.{◌≡◌, ℕ, zero, suc, ◌+◌, ◌-◌, ◌*◌, ◌^◌, ◌<◌, ◌≤◌, ◌==◌, Bool, true, false, cond, eqb, leb, List, [], ◌∷◌, ◌++◌, inl, inr, Contains, length, get_or, map, refl, sym, ap, subst, ◌∙◌, arith, length-append}
use Rattle.std.specs.Cmp.{nat_eq_equiv}
use Rattle.std.proofs.lemmas.Bool.{both_ways, cases_Bool, eqb-true, le-leb, and_from, and_parts, or_cases, or_left, or_right}
use Rattle.std.proofs.lemmas.Map.Made.{length-le_from_is_member}
use Rattle.std.proofs.lemmas.Map.Steps.{length-le_from_distinct_below}
use Rattle.heap_layout.specs.declared.edition.Edition.{Edition}
use Rattle.heap_layout.specs.declared.edition.Edition.TheVariants.{One, Two, Three, Four}
use Rattle.heap_layout.specs.Bits.{bit, leads}
use Rattle.heap_layout.specs.Heap.{object_at, from_address}
use Rattle.heap_layout.specs.Limits.{most_words, most_roots}
use Rattle.heap_layout.specs.Values.{is_immediate, or_immediate}
use Rattle.heap_layout.proofs.Bounds.{words_most}
use Rattle.heap_layout.proofs.Values.{no-immediate}
use Rattle.reachability.specs.Queue.{has, is_address}
use Rattle.reachability.proofs.Rising.{has-contained}
use Rattle.stopped_heap.specs.Ephemerons.{IsHeld, held_immediate, held_mark, held_reference, held_value, AreHeld, IsLive, IsSettled, IsHeldFaultOf}
use Rattle.rest_marks.specs.Growing.{roots_on, AreMarked, IsBegun, IsMoreFaultOf}
use Rattle.rest_marks.specs.Reached.{is_within, LeadInto, IsReachedFrom, by_root, by_reference, AreReached}
use Rattle.rest_marks.specs.Surveys.{marks_of}
use Rattle.rest_marks.specs.declared.fault.SurveyFault.{SurveyFault}
use Rattle.rest_marks.specs.declared.fault.SurveyFault.TheVariants.{TooLarge, BadRoot, BadReference, BadWeak, ObjectTooLong, ObjectPastEnd, Overlap, OutOfMemory}
use Rattle.rest_marks.proofs.Grown.{address-back, had-cases, kept-marked, kept-word, lead-cases, lead-left, lead-marked, marked-lead, mark-of, set-of}
use Rattle.rest_marks.proofs.Queued.{once-push}
use Rattle.rest_marks.proofs.Reaching.{reached-inside}
use Rattle.rest_marks.proofs.Surveying.{marks-rising}

-- the address of a marked object is live
pub address-live : (edition : Edition) (heads : List ℕ) (i : ℕ) → bit heads i ≡ true → IsLive edition heads (from_address i)
address-live edition heads i set =
    let back : from_address i - 2 ^ 32 ≡ i = omega arith in
    or_right (is_immediate edition (from_address i)) (is_address (bit heads) (from_address i))
    (and_from (leb (2 ^ 32) (from_address i)) (bit heads (from_address i - 2 ^ 32)) (le-leb (2 ^ 32) (from_address i) (omega arith)) (ap (bit heads) back ∙ set))

-- and an address that is live is that of one
pub live-bit : (edition : Edition) (heads : List ℕ) (i : ℕ) → i < 2 ^ 31 → IsLive edition heads (from_address i) → bit heads i ≡ true
live-bit edition heads i small live =
    let back : from_address i - 2 ^ 32 ≡ i = omega arith in
    elim (or_cases (is_immediate edition (from_address i)) (is_address (bit heads) (from_address i)) live) [
      | inl immediate ↦ absurd (no-immediate edition (from_address i) (omega (arith, small)) immediate)
      | inr address ↦ sym (ap (bit heads) back) ∙ (and_parts (leb (2 ^ 32) (from_address i)) (bit heads (from_address i - 2 ^ 32)) address).1
    ]

-- what is live is held, if what is marked is
pub live-held : (edition : Edition) (words marks ephemerons heads : List ℕ) (word : ℕ) → ((i : ℕ) → bit heads i ≡ true → IsHeld edition words marks ephemerons (from_address i))
    → IsLive edition heads word → IsHeld edition words marks ephemerons word
live-held edition words marks ephemerons heads word sound live =
    elim (or_cases (is_immediate edition word) (is_address (bit heads) word) live) [
      | inl immediate ↦ held_immediate word immediate
      | inr address ↦
          let same = address-back (bit heads) word address in
          subst (IsHeld edition words marks ephemerons) (sym same) (sound (word - 2 ^ 32) (and_parts (leb (2 ^ 32) word) (bit heads (word - 2 ^ 32)) address).1)
    ]

-- what is held from objects that are held from others is held from these
pub held-through : (edition : Edition) (words marks others ephemerons : List ℕ) → ((i : ℕ) → Contains marks i → IsHeld edition words others ephemerons (from_address i))
    → (word : ℕ) → IsHeld edition words marks ephemerons word → IsHeld edition words others ephemerons word
held-through edition words marks others ephemerons each word (held_immediate _ immediate) = held_immediate word immediate
held-through edition words marks others ephemerons each word (held_mark _ i there same) = subst (IsHeld edition words others ephemerons) (sym same) (each i there)
held-through edition words marks others ephemerons each word (held_reference _ i j inside held leads_there same) =
    held_reference word i j inside (held-through edition words marks others ephemerons each (from_address i) held) leads_there same
held-through edition words marks others ephemerons each word (held_value _ k j inside holder key is lt same) =
    held_value word k j inside (held-through edition words marks others ephemerons each (get_or ephemerons (3 * k) 0) holder)
    (held-through edition words marks others ephemerons each (get_or ephemerons (3 * k + 1) 0) key) is lt same

-- what a value newly reaches is held, if the value is
pub reached-held : (edition : Edition) (words marks ephemerons queue from : List ℕ) → ((i : ℕ) → Contains queue i → IsHeld edition words marks ephemerons (from_address i))
    → ((i : ℕ) → LeadInto words from i → IsHeld edition words marks ephemerons (from_address i))
    → (i : ℕ) → IsReachedFrom edition words (roots_on queue from) i → IsHeld edition words marks ephemerons (from_address i)
reached-held edition words marks ephemerons queue from sound each i (by_root _ leads_there) = elim (lead-cases words (map from_address queue) from i leads_there) [
  | inl old ↦ sound i (lead-marked words queue i old)
  | inr new ↦ each i new
]
reached-held edition words marks ephemerons queue from sound each j (by_reference i _ reached leads_there) =
    held_reference (from_address j) i j (reached-inside edition words (roots_on queue from) i reached) (reached-held edition words marks ephemerons queue from sound each i reached) leads_there refl

-- the value of an ephemeron whose holder and key are live
pub value-held : (edition : Edition) (words heads ephemerons : List ℕ) (k : ℕ) → 3 * k + 2 < length ephemerons → IsLive edition heads (get_or ephemerons (3 * k) 0)
    → IsLive edition heads (get_or ephemerons (3 * k + 1) 0) → (i : ℕ) → LeadInto words (get_or ephemerons (3 * k + 2) 0 ∷ []) i
    → IsHeld edition words (marks_of heads) ephemerons (from_address i)
value-held edition words heads ephemerons k inside holder key i leads_there =
    let value = get_or ephemerons (3 * k + 2) 0 in
    let sound : (j : ℕ) → bit heads j ≡ true → IsHeld edition words (marks_of heads) ephemerons (from_address j) = λ j set. held_mark (from_address j) j (mark-of heads j set) refl in
    elim (or_cases (eqb (from_address i) value) false (has-contained (value ∷ []) (from_address i) leads_there.address)) [
      | inl here ↦
          held_value (from_address i) k i inside (live-held edition words (marks_of heads) ephemerons heads (get_or ephemerons (3 * k) 0) sound holder)
          (live-held edition words (marks_of heads) ephemerons heads (get_or ephemerons (3 * k + 1) 0) sound key) (sym (eqb-true (from_address i) value here)) leads_there.inside refl
      | inr never ↦ absurd (let none : false ≡ true = never in cc)
    ]

-- some root may be handed in
one-root : (edition : Edition) → 1 ≤ most_roots edition
one-root One = omega arith
one-root Two = omega arith
one-root Three = omega arith
one-root Four = omega arith

-- a fault that marking from a value meets
pub fault-held : (edition : Edition) (words marks ephemerons : List ℕ) (value : ℕ) (fault : SurveyFault) → is_within edition (length words) value ≡ true
    → ((i : ℕ) → IsReachedFrom edition words (roots_on marks (value ∷ [])) i → IsHeld edition words marks ephemerons (from_address i))
    → IsMoreFaultOf edition words marks (value ∷ []) fault → IsHeldFaultOf edition words marks ephemerons fault
fault-held edition words marks ephemerons value TooLarge within held is = absurd (let some = one-root edition in let many : most_roots edition < 1 = is in omega (arith, some, many))
fault-held edition words marks ephemerons value (BadRoot zero) within held (_, is) = absurd (both_ways (is_within edition (length words) value) is.1 within)
fault-held edition words marks ephemerons value (BadRoot (suc k)) within held (_, is) = absurd (let lt : suc k < 1 = is.0 in omega (arith, lt))
fault-held edition words marks ephemerons value (BadReference j) within held (_, is) = (is.0, held is.0 is.1, is.2, is.3, is.4, is.5)
fault-held edition words marks ephemerons value (BadWeak j) within held (_, is) = (is.0, held is.0 is.1, is.2, is.3, is.4, is.5)
fault-held edition words marks ephemerons value (ObjectTooLong i) within held (_, is) = (held i is.0, is.1)
fault-held edition words marks ephemerons value (ObjectPastEnd i) within held (_, is) = (held i is.0, is.1)
fault-held edition words marks ephemerons value (Overlap i) within held (_, is) = (held i is.0, is.1, held is.1 is.2, is.3, is.4, is.5, is.6)
fault-held edition words marks ephemerons value OutOfMemory within held is = tt

-- the same fault, said of more objects that were marked before
pub fault-through : (edition : Edition) (words marks others ephemerons : List ℕ) (fault : SurveyFault)
    → ((i : ℕ) → Contains marks i → IsHeld edition words others ephemerons (from_address i))
    → IsHeldFaultOf edition words marks ephemerons fault → IsHeldFaultOf edition words others ephemerons fault
fault-through edition words marks others ephemerons TooLarge each is = is
fault-through edition words marks others ephemerons (BadRoot k) each is = is
fault-through edition words marks others ephemerons (BadReference j) each is =
    (is.0, held-through edition words marks others ephemerons each (from_address is.0) is.1, is.2, is.3, is.4, is.5)
fault-through edition words marks others ephemerons (BadWeak j) each is = (is.0, held-through edition words marks others ephemerons each (from_address is.0) is.1, is.2, is.3, is.4, is.5)
fault-through edition words marks others ephemerons (ObjectTooLong i) each is = (held-through edition words marks others ephemerons each (from_address i) is.0, is.1)
fault-through edition words marks others ephemerons (ObjectPastEnd i) each is = (held-through edition words marks others ephemerons each (from_address i) is.0, is.1)
fault-through edition words marks others ephemerons (Overlap i) each is = (
  held-through edition words marks others ephemerons each (from_address i) is.0,
  is.1,
  held-through edition words marks others ephemerons each (from_address is.1) is.2,
  is.3,
  is.4,
  is.5,
  is.6,
)
fault-through edition words marks others ephemerons OutOfMemory each is = tt

-- ---- all that is held is marked

-- if references lead to marked objects, and all ephemerons are settled
pub held-live : (edition : Edition) (words marks ephemerons heads bits : List ℕ) → length words ≤ most_words edition → AreMarked edition words heads bits
    → ((i : ℕ) → Contains marks i → bit heads i ≡ true) → ((k : ℕ) → 3 * k + 2 < length ephemerons → IsSettled edition heads ephemerons k)
    → (word : ℕ) → IsHeld edition words marks ephemerons word → IsLive edition heads word
held-live edition words marks ephemerons heads bits few marked sub settled word (held_immediate _ immediate) =
    or_left (is_immediate edition word) (is_address (bit heads) word) immediate
held-live edition words marks ephemerons heads bits few marked sub settled word (held_mark _ i there same) = subst (IsLive edition heads) (sym same) (address-live edition heads i (sub i there))
held-live edition words marks ephemerons heads bits few marked sub settled word (held_reference _ i j inside held leads_there same) =
    let references = (object_at edition words i).references in
    let set = live-bit edition heads i (omega (arith, inside, few, words_most edition))
    (held-live edition words marks ephemerons heads bits few marked sub settled (from_address i) held) in
    let to = kept-marked edition heads references j (omega (arith, leads_there.inside, few, words_most edition)) (marked.closed i set)
    (has-contained references (from_address j) leads_there.address) in
    subst (IsLive edition heads) (sym same) (address-live edition heads j to)
held-live edition words marks ephemerons heads bits few marked sub settled word (held_value _ k j inside holder key is lt same) =
    let kept = settled k inside (held-live edition words marks ephemerons heads bits few marked sub settled (get_or ephemerons (3 * k) 0) holder)
    (held-live edition words marks ephemerons heads bits few marked sub settled (get_or ephemerons (3 * k + 1) 0) key) in
    let at : or_immediate edition (leads heads) (from_address j) ≡ true = subst (λ (w : ℕ). or_immediate edition (leads heads) w ≡ true) (is ∙ same) kept in
    subst (IsLive edition heads) (sym same) (address-live edition heads j (kept-word edition heads j (omega (arith, lt, few, words_most edition)) at))

pub are-held : (edition : Edition) (words marks ephemerons heads bits : List ℕ) → length words ≤ most_words edition → AreMarked edition words heads bits
    → ((i : ℕ) → Contains marks i → bit heads i ≡ true) → ((k : ℕ) → 3 * k + 2 < length ephemerons → IsSettled edition heads ephemerons k)
    → ((i : ℕ) → bit heads i ≡ true → IsHeld edition words marks ephemerons (from_address i)) → AreHeld edition words marks ephemerons (marks_of heads)
are-held edition words marks ephemerons heads bits few marked sub settled sound = record {
  rising = marks-rising heads;
  inside = λ i there. let placed = (marked.done i (set-of heads i there)).placed in omega (arith, placed.within);
  held = λ i there. sound i (set-of heads i there);
  all = λ i inside held.
      mark-of heads i (live-bit edition heads i (omega (arith, inside, few, words_most edition))
      (held-live edition words marks ephemerons heads bits few marked sub settled (from_address i) held));
}

-- ---- one value more

-- what was marked stays marked
pub stays-marked : (edition : Edition) (words queue heads bits more new : List ℕ) → IsBegun edition words queue heads bits
    → AreReached edition words (roots_on (marks_of heads) more) (marks_of new) → (i : ℕ) → bit heads i ≡ true → bit new i ≡ true
stays-marked edition words queue heads bits more new begun reached i set =
    set-of new i
    (reached.all i (by_root i (lead-left words (map from_address (marks_of heads)) more i
    (marked-lead words (marks_of heads) i (begun.once.within i (sym (begun.met i) ∙ set)) (mark-of heads i set)))))

-- an object that is newly marked makes the queue longer
pub more-marked : (edition : Edition) (words queue heads bits new_queue new_heads new_bits : List ℕ) (i : ℕ) → IsBegun edition words queue heads bits
    → IsBegun edition words new_queue new_heads new_bits → ((j : ℕ) → bit heads j ≡ true → bit new_heads j ≡ true) → bit heads i ≡ false → bit new_heads i ≡ true
    → length queue < length new_queue
more-marked edition words queue heads bits new_queue new_heads new_bits i begun now more unset set =
    let inside = now.once.within i (sym (now.met i) ∙ set) in
    let pushed = once-push (length words) queue i begun.once inside (sym (begun.met i) ∙ unset) in
    let longer : length (queue ++ i ∷ []) ≤ length new_queue =
    length-le_from_is_member nat_eq_equiv (queue ++ i ∷ []) new_queue pushed.once (λ j there. elim (had-cases queue (i ∷ []) j there) [
      | inl old ↦ sym (now.met j) ∙ more j (begun.met j ∙ old)
      | inr last ↦ elim (or_cases (eqb j i) false last) [
        | inl same ↦ subst (λ (n : ℕ). has new_queue n ≡ true) (sym (eqb-true j i same)) (sym (now.met i) ∙ set)
        | inr never ↦ absurd (let none : false ≡ true = never in cc)
      ]
    ]) in
    omega (arith, longer, length-append queue (i ∷ []))

-- so does a value that was not kept and is now
pub value-longer : (edition : Edition) (words queue heads bits new_queue new_heads new_bits : List ℕ) (value : ℕ) → IsBegun edition words queue heads bits
    → IsBegun edition words new_queue new_heads new_bits → ((j : ℕ) → bit heads j ≡ true → bit new_heads j ≡ true) → or_immediate edition (leads heads) value ≡ false
    → or_immediate edition (leads new_heads) value ≡ true → length queue < length new_queue
value-longer edition words queue heads bits new_queue new_heads new_bits value begun now more lost kept =
    elim (or_cases (is_immediate edition value) (leads new_heads value) kept) [
      | inl immediate ↦ absurd (both_ways (or_immediate edition (leads heads) value) lost (or_left (is_immediate edition value) (leads heads value) immediate))
      | inr to ↦ elim (or_cases (value == 0) (is_address (bit new_heads) value) to) [
        | inl null ↦
            absurd (both_ways (or_immediate edition (leads heads) value) lost
            (or_right (is_immediate edition value) (leads heads value) (or_left (value == 0) (is_address (bit heads) value) null)))
        | inr address ↦
            let i = value - 2 ^ 32 in
            let parts = and_parts (leb (2 ^ 32) value) (bit new_heads i) address in
            elim (cases_Bool (bit heads i)) [
              | inl set ↦
                  absurd (both_ways (or_immediate edition (leads heads) value) lost
                  (or_right (is_immediate edition value) (leads heads value) (or_right (value == 0) (is_address (bit heads) value) (and_from (leb (2 ^ 32) value) (bit heads i) parts.0 set))))
              | inr unset ↦ more-marked edition words queue heads bits new_queue new_heads new_bits i begun now more unset parts.1
            ]
      ]
    ]

-- a queue has no more objects than there are words
pub queue-few : (edition : Edition) (words queue heads bits : List ℕ) → IsBegun edition words queue heads bits → length queue ≤ length words
queue-few edition words queue heads bits begun = length-le_from_distinct_below queue (length words) begun.once.once begun.once.within

-- the measure of the rounds: after one that keeps a value the queue is longer, and after another one there is none more
pub measure-smaller : (more before : Bool) (words old new : ℕ) → before ≡ true → new ≤ words → old ≤ new → (more ≡ true → old < new)
    → cond more 1 0 + (words - new) < cond before 1 0 + (words - old)
measure-smaller true true words old new is fits no_shorter longer = let up = longer refl in omega (arith, fits, up)
measure-smaller false true words old new is fits no_shorter longer = omega (arith, no_shorter)
measure-smaller more false words old new is fits no_shorter longer = absurd (let none : false ≡ true = is in cc)

-- ---- one step after another

-- what a later step marks is held, if what the steps before it marked is
pub held-then : (edition : Edition) (words first mid new ephemerons : List ℕ) → ((i : ℕ) → bit mid i ≡ true → IsHeld edition words (marks_of first) ephemerons (from_address i))
    → ((i : ℕ) → bit new i ≡ true → IsHeld edition words (marks_of mid) ephemerons (from_address i))
    → (i : ℕ) → bit new i ≡ true → IsHeld edition words (marks_of first) ephemerons (from_address i)
held-then edition words first mid new ephemerons before after i set =
    held-through edition words (marks_of mid) (marks_of first) ephemerons (λ j there. before j (set-of mid j there)) (from_address i) (after i set)
