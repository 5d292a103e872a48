-- Marking that goes on in words that may have been written to: what it finds is so of the words that were seen.
use Rattle.std.proofs.Common.{◌≡◌, ℕ, ◌+◌, ◌<◌, ◌≤◌, ◌/◌, true, false, List, Contains, inl, inr, length, fold, get_or, take, drop, refl, sym, ap, subst, ◌∙◌, arith, length-take, length-drop}
use Rattle.std.proofs.lemmas.Bool.{both_ways, cases_Bool, cases_lt}
use Rattle.std.proofs.lemmas.Grind.{same_number_lists}
use Rattle.std.proofs.lemmas.List.{get_or-take, get_or-drop}
use Rattle.heap_layout.specs.declared.edition.Edition.{Edition}
use Rattle.heap_layout.specs.Bits.{bit}
use Rattle.heap_layout.specs.Header.{Head, header_of, refs_of, weak_of, data_of, size_of}
use Rattle.heap_layout.specs.Heap.{Object, header_at, object_at, IsPlaced}
use Rattle.heap_layout.specs.Limits.{most_roots}
use Rattle.mark_tables.proofs.Runs.{IsRunSet}
use Rattle.reachability.specs.Queue.{after_word}
use Rattle.reachability.proofs.Queues.{place-of}
use Rattle.rest_marks.specs.Growing.{roots_on, AreAlike, AreReady, IsBegun, IsBegunIn, IsGrown, IsGrownIn, IsOnward, IsMoreFaultOf, IsSeenFaultOf}
use Rattle.rest_marks.specs.Meeting.{AllLead, AreMet, AreOnce}
use Rattle.rest_marks.specs.Reached.{is_below, is_within, IsWordOf, IsReachedFrom}
use Rattle.rest_marks.specs.declared.fault.SurveyFault.{SurveyFault}
use Rattle.rest_marks.specs.declared.fault.SurveyFault.TheVariants.{TooLarge, BadRoot, BadReference, BadWeak, ObjectTooLong, ObjectPastEnd, Overlap, OutOfMemory}
use Rattle.rest_marks.proofs.Grown.{fault-same, followed-begun, on-same, onward-marked, spread-begun}
use Rattle.rest_marks.proofs.Reaching.{references_of, IsFollowed, followed-next, all-followed, reached-at}
use Rattle.rest_marks.proofs.Refusing.{bad-reference, bad-weak, overlapping}
use Rattle.rest_marks.proofs.Spread.{IsSpread, spread-next, spread-done, spread-only, spread-apart}

-- ---- an object whose words are the same

module _ (edition : Edition) (words seen : List ℕ) (i : ℕ) (long : length seen ≡ length words) (placed : IsPlaced edition words i)
    (same : (j : ℕ) → IsWordOf edition words i j → get_or seen j 0 ≡ get_or words j 0) where
  same-header : header_at edition seen i ≡ header_at edition words i
  same-header = ap (header_of edition) (same i (omega arith, omega arith))

  same-part : (at many : ℕ) → i ≤ at → at + many ≤ i + size_of (header_at edition words i) → take many (drop at seen) ≡ take many (drop at words)
  same-part at many from ends =
      same_number_lists (take many (drop at seen)) (take many (drop at words))
      (omega (arith, length-take many (drop at seen), length-take many (drop at words), length-drop at seen, length-drop at words, long))
      (λ k lt.
      let few : k < many = omega (arith, lt, length-take many (drop at seen)) in
      get_or-take many (drop at seen) k 0 few ∙ get_or-drop at seen k 0
      ∙ same (at + k) (omega (arith, from), omega (arith, few, ends))
      ∙ sym (get_or-take many (drop at words) k 0 few ∙ get_or-drop at words k 0))

  pub same-object : object_at edition seen i ≡ object_at edition words i
  same-object =
      let h = header_at edition words i in
      let references = take (refs_of h) (drop (i + 1) words) in
      let weak = take (weak_of h) (drop (i + 1 + refs_of h) words) in
      let object : Head → Object = λ g. record {
        index = i;
        header = g;
        references = take (refs_of g) (drop (i + 1) seen);
        weak = take (weak_of g) (drop (i + 1 + refs_of g) seen);
        data_words = take (data_of g) (drop (i + 1 + refs_of g + weak_of g) seen);
      } in
      ap object same-header
      ∙ ap (λ (xs : List ℕ). record {
        index = i;
        header = h;
        references = xs;
        weak = take (weak_of h) (drop (i + 1 + refs_of h) seen);
        data_words = take (data_of h) (drop (i + 1 + refs_of h + weak_of h) seen);
      }) (same-part (i + 1) (refs_of h) (omega arith) (omega arith))
      ∙ ap (λ (xs : List ℕ). record {
        index = i;
        header = h;
        references = references;
        weak = xs;
        data_words = take (data_of h) (drop (i + 1 + refs_of h + weak_of h) seen);
      }) (same-part (i + 1 + refs_of h) (weak_of h) (omega arith) (omega arith))
      ∙ ap (λ (xs : List ℕ). record { index = i; header = h; references = references; weak = weak; data_words = xs })
      (same-part (i + 1 + refs_of h + weak_of h) (data_of h) (omega arith) (omega arith))

-- an object none of whose bits is set is the same
pub alike-object : (edition : Edition) (words seen bits : List ℕ) (i : ℕ) → AreAlike words seen bits → IsPlaced edition words i
    → ((j : ℕ) → IsWordOf edition words i j → bit bits j ≡ false) → object_at edition seen i ≡ object_at edition words i
alike-object edition words seen bits i alike placed free = same-object edition words seen i alike.long placed (λ j of. alike.free j (free j of))

-- ---- the loop

-- What was done with the first objects of the queue is so of the words that were seen.
pub record IsSeenTo (edition : Edition) (seen before roots queue : List ℕ) (next : ℕ) (heads bits : List ℕ) : Type 0 where
  pub followed : IsFollowed edition seen (roots_on before roots) queue next
  pub spread : IsSpread edition seen queue next heads bits

-- a bit that is not set was not set before
pub unset-before : (old bits : List ℕ) (j : ℕ) → ((j : ℕ) → bit old j ≡ true → bit bits j ≡ true) → bit bits j ≡ false → bit old j ≡ false
unset-before old bits j stay unset = elim (cases_Bool (bit old j)) [ inl set ↦ absurd (both_ways (bit bits j) unset (stay j set)) | inr free ↦ free ]

-- a run that is set leaves no bit unset
pub run-stays : (start size : ℕ) (old new : List ℕ) → IsRunSet start size old new → (j : ℕ) → bit old j ≡ true → bit new j ≡ true
run-stays start size old new run j set = elim (cases_lt j start) [
  | inl low ↦ run.below j low ∙ set
  | inr above ↦ elim (cases_lt j (start + size)) [
    | inl inside ↦ run.inside j above inside
    | inr past ↦ run.above j past ∙ set
  ]
]

module _ (edition : Edition) (words seen before roots first_heads first_bits : List ℕ) (is : IsBegunIn edition words seen before first_heads first_bits) where
  -- of the objects of before all was done
  pub seen-first : (queue heads : List ℕ) → queue ≡ fold (after_word (is_below (length words))) before roots → AreMet queue heads → length heads ≡ length first_bits
      → IsSeenTo edition seen before roots queue (length before) heads first_bits
  seen-first queue heads from met same =
      let from_seen : queue ≡ fold (after_word (is_below (length seen))) before roots = from ∙ ap (λ (n : ℕ). fold (after_word (is_below n)) before roots) (sym is.alike.long) in
      record {
        followed = followed-begun edition seen roots before queue first_heads first_bits is.begun from_seen;
        spread = spread-begun edition seen roots before queue first_heads first_bits is.begun from_seen heads met same;
      }

  module _ (old : List ℕ) (next : ℕ) (old_heads old_bits : List ℕ) (stay : (j : ℕ) → bit first_bits j ≡ true → bit old_bits j ≡ true)
      (to : IsSeenTo edition seen before roots old next old_heads old_bits) (within : next < length old) where
    abbrev here : ℕ
    here = get_or old next 0

    pub seen-reached : IsReachedFrom edition seen (roots_on before roots) here
    seen-reached = reached-at edition seen (roots_on before roots) old next next to.followed within

    -- an object whose words are free
    module _ (placed : IsPlaced edition words here) (free : (j : ℕ) → IsWordOf edition words here j → bit old_bits j ≡ false) where
      pub free-object : object_at edition seen here ≡ object_at edition words here
      free-object = alike-object edition words seen first_bits here is.alike placed (λ j of. unset-before first_bits old_bits j stay (free j of))

      free-size : size_of (header_at edition seen here) ≡ size_of (header_at edition words here)
      free-size = ap (λ (o : Object). size_of o.header) free-object

      -- is done in the words that were seen
      pub seen-next : (new heads bits : List ℕ) → new ≡ fold (after_word (is_below (length words))) old (references_of edition words here) → AreMet new heads
          → length heads ≡ length bits → IsRunSet here (size_of (header_at edition words here)) old_bits bits
          → AllLead edition (length words) (object_at edition words here).references → AllLead edition (length words) (object_at edition words here).weak
          → IsSeenTo edition seen before roots new (next + 1) heads bits
      seen-next new heads bits from met same run references weak =
          let from_seen : new ≡ fold (after_word (is_below (length seen))) old (references_of edition seen here) =
          from ∙ ap (λ (n : ℕ). fold (after_word (is_below n)) old (references_of edition words here)) (sym is.alike.long)
          ∙ ap (λ (o : Object). fold (after_word (is_below (length seen))) old o.references) (sym free-object) in
          let lead_seen : (xs ys : List ℕ) → xs ≡ ys → AllLead edition (length words) ys → AllLead edition (length seen) xs =
          λ xs ys equal lead. subst (AllLead edition (length seen)) (sym equal) (subst (λ (n : ℕ). AllLead edition n ys) (sym is.alike.long) lead) in
          record {
            followed = followed-next edition seen (roots_on before roots) old next new to.followed within from_seen;
            spread = spread-next edition seen old next new old_heads old_bits heads bits to.spread within from_seen met same
                (record { within = omega (arith, placed.within, free-size, is.alike.long); short = omega (arith, placed.short, free-size) })
                (subst (λ (n : ℕ). IsRunSet here n old_bits bits) (sym free-size) run)
                (λ j of. free j (of.0, omega (arith, of.1, free-size)))
                (lead_seen (object_at edition seen here).references (object_at edition words here).references (ap (λ (o : Object). o.references) free-object) references)
                (lead_seen (object_at edition seen here).weak (object_at edition words here).weak (ap (λ (o : Object). o.weak) free-object) weak);
          }

      -- a reference or a weak word of it leads nowhere
      pub seen-reference : (from : List ℕ) (k : ℕ) → length roots ≤ most_roots edition → from ≡ (object_at edition words here).references → k < length from
          → is_within edition (length words) (get_or from k 0) ≡ false → IsSeenFaultOf edition words seen before roots (BadReference (here + 1 + k))
      seen-reference from k few are lt nowhere = (
        few,
        bad-reference edition seen (roots_on before roots) from here k seen-reached (are ∙ ap (λ (o : Object). o.references) (sym free-object)) lt
            (subst (λ (n : ℕ). is_within edition n (get_or from k 0) ≡ false) (sym is.alike.long) nowhere),
      )

      pub seen-weak : (from : List ℕ) (refs k : ℕ) → length roots ≤ most_roots edition → refs ≡ refs_of (header_at edition words here)
          → from ≡ (object_at edition words here).weak → k < length from → is_within edition (length words) (get_or from k 0) ≡ false
          → IsSeenFaultOf edition words seen before roots (BadWeak (here + 1 + refs + k))
      seen-weak from refs k few same are lt nowhere = (
        few,
        bad-weak edition seen (roots_on before roots) from here refs k seen-reached (same ∙ ap (λ (o : Object). refs_of o.header) (sym free-object))
            (are ∙ ap (λ (o : Object). o.weak) (sym free-object)) lt (subst (λ (n : ℕ). is_within edition n (get_or from k 0) ≡ false) (sym is.alike.long) nowhere),
      )

    -- an object a word of which is taken overlaps another one: by its first word, or else by one that is its own in the
    -- words that were seen too
    pub seen-overlap : (n : ℕ) → length roots ≤ most_roots edition → IsWordOf edition words here n → bit old_bits n ≡ true
        → IsSeenFaultOf edition words seen before roots (Overlap here)
    seen-overlap n few of set = (
      few,
      elim (cases_Bool (bit old_bits here)) [
        | inl taken ↦ overlapping edition seen (roots_on before roots) old next old_heads old_bits here to.followed to.spread within (omega arith, omega arith) taken
        | inr free ↦
            let head : header_at edition seen here ≡ header_at edition words here =
            ap (header_of edition) (is.alike.free here (unset-before first_bits old_bits here stay free)) in
            overlapping edition seen (roots_on before roots) old next old_heads old_bits n to.followed to.spread within
            (subst (λ (h : Head). (here ≤ n) × (n < here + size_of h)) (sym head) of) set
      ],
    )

  -- all was done
  pub seen-onward : (queue : List ℕ) (next : ℕ) (heads bits : List ℕ) → IsSeenTo edition seen before roots queue next heads bits → length queue ≤ next
      → AllLead edition (length words) roots → IsOnward edition seen before roots heads bits
  seen-onward queue next heads bits to all lead = record {
    few = is.begun.few;
    reached = λ i set.
        let at = place-of queue i (sym (to.spread.met i) ∙ set) in
        subst (IsReachedFrom edition seen (roots_on before roots)) at.2 (reached-at edition seen (roots_on before roots) queue next at.0 to.followed at.1);
    all = λ i reached. to.spread.met i ∙ all-followed edition seen (roots_on before roots) queue next to.followed all i reached;
    done = spread-done edition seen queue next heads bits to.spread all;
    only = spread-only edition seen queue next heads bits to.spread to.followed.within;
    apart = spread-apart edition seen queue next heads bits to.spread all;
    roots_lead = subst (λ (n : ℕ). AllLead edition n roots) (sym is.alike.long) lead;
  }

-- ---- words that are those that were seen

pub alike-same : (words bits : List ℕ) → AreAlike words words bits
alike-same words bits = record { long = refl; free = λ i unset. refl }

pub begun-same : (edition : Edition) (words queue heads bits : List ℕ) → IsBegun edition words queue heads bits → IsBegunIn edition words words queue heads bits
begun-same edition words queue heads bits begun = record { alike = alike-same words bits; begun = begun }

pub grown-same : (edition : Edition) (words queue heads bits : List ℕ) → IsGrown edition words queue heads bits → IsGrownIn edition words words queue heads bits
grown-same edition words queue heads bits grown = record { alike = alike-same words bits; grown = grown }

-- their fault is one of them
pub fault-seen : (edition : Edition) (words marks more : List ℕ) (fault : SurveyFault) → IsSeenFaultOf edition words words marks more fault → IsMoreFaultOf edition words marks more fault
fault-seen edition words marks more TooLarge is = is
fault-seen edition words marks more (BadRoot k) is = is
fault-seen edition words marks more (BadReference j) is = is
fault-seen edition words marks more (BadWeak j) is = is
fault-seen edition words marks more (ObjectTooLong i) is = (is.0, (is.1, is.2))
fault-seen edition words marks more (ObjectPastEnd i) is = (is.0, (is.1, is.2))
fault-seen edition words marks more (Overlap i) is = is
fault-seen edition words marks more OutOfMemory is = is

-- ---- the tables

-- a fault of one list of marked objects is one of another that has the same
pub seen-fault-same : (edition : Edition) (words seen xs ys more : List ℕ) (fault : SurveyFault) → ((i : ℕ) → Contains xs i → Contains ys i)
    → IsSeenFaultOf edition words seen xs more fault → IsSeenFaultOf edition words seen ys more fault
seen-fault-same edition words seen xs ys more TooLarge same is = is
seen-fault-same edition words seen xs ys more (BadRoot k) same is = is
seen-fault-same edition words seen xs ys more (BadReference j) same is = fault-same edition seen xs ys more (BadReference j) same is
seen-fault-same edition words seen xs ys more (BadWeak j) same is = fault-same edition seen xs ys more (BadWeak j) same is
seen-fault-same edition words seen xs ys more (ObjectTooLong i) same is = (is.0, on-same edition seen xs ys more same i is.1, is.2)
seen-fault-same edition words seen xs ys more (ObjectPastEnd i) same is = (is.0, on-same edition seen xs ys more same i is.1, is.2)
seen-fault-same edition words seen xs ys more (Overlap i) same is = fault-same edition seen xs ys more (Overlap i) same is
seen-fault-same edition words seen xs ys more OutOfMemory same is = is

-- tables that grew are ready to grow on
pub grown-ready : (edition : Edition) (words queue heads bits : List ℕ) → IsGrown edition words queue heads bits → AreReady edition (length words) queue heads bits
grown-ready edition words queue heads bits grown = record {
  few = grown.begun.few;
  sized = grown.sized;
  same = grown.same;
  met = grown.begun.met;
  once = grown.begun.once;
}

-- and when marking has gone on they grew
pub grown-onward : (edition : Edition) (words seen queue heads bits more new_queue new_heads new_bits : List ℕ) → IsGrownIn edition words seen queue heads bits
    → AreReady edition (length words) new_queue new_heads new_bits → ((j : ℕ) → bit bits j ≡ true → bit new_bits j ≡ true)
    → IsOnward edition seen queue more new_heads new_bits → IsGrownIn edition words seen new_queue new_heads new_bits
grown-onward edition words seen queue heads bits more new_queue new_heads new_bits is ready stay onward = record {
  alike = record { long = is.alike.long; free = λ i unset. is.alike.free i (unset-before bits new_bits i stay unset) };
  grown = record {
    sized = ready.sized ∙ ap (λ (n : ℕ). (n + 63) / 64) (sym is.alike.long);
    same = ready.same;
    begun = record {
      few = onward.few;
      met = ready.met;
      once = subst (λ (n : ℕ). AreOnce n new_queue) (sym is.alike.long) ready.once;
      marked = onward-marked edition seen queue more new_heads new_bits onward;
    };
  };
}
