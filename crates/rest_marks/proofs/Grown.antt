-- Marking that goes on from more roots.
use Rattle.std.proofs.Common.{◌≡◌, ℕ, ◌+◌, ◌-◌, ◌*◌, ◌/◌, ◌^◌, ◌<◌, ◌≤◌, ◌==◌, ◌⊎◌, true, false, Bool, eqb, leb, List, [], ◌∷◌, ◌++◌, inl, inr, Contains, length, get_or, fold, map, replicate, refl, sym, ap, subst, ◌∙◌, arith}
use Rattle.std.specs.List.{range_with_len}
use Rattle.std.proofs.lemmas.Bool.{both_ways, cases_eq, cases_order, eq-eqb, eqb-true, leb-true, ltb-true, and_from, and_parts, or_cases, or_left, or_right}
use Rattle.std.proofs.lemmas.List.{nil_from_length, length-replicate}
use Rattle.std.proofs.lemmas.List.Elements.{filter_passes, All-contains}
use Rattle.std.proofs.lemmas.List.Folds.{list_any-append}
use Rattle.std.proofs.lemmas.Map.Keys.{apart_from_distinct}
use Rattle.heap_layout.specs.declared.edition.Edition.{Edition}
use Rattle.heap_layout.specs.Bits.{bit, leads}
use Rattle.heap_layout.specs.Heap.{object_at, live, from_address}
use Rattle.heap_layout.specs.Limits.{most_words, most_roots}
use Rattle.heap_layout.specs.Values.{is_immediate, or_immediate}
use Rattle.heap_layout.proofs.Bounds.{words_most}
use Rattle.heap_layout.proofs.Values.{no-immediate}
use Rattle.mark_tables.specs.MarkBitmap.{set_bits}
use Rattle.mark_tables.specs.LiveWords.{live_indices}
use Rattle.mark_tables.proofs.Runs.{zeros-bit}
use Rattle.reachability.specs.Queue.{has, is_address, after_word}
use Rattle.reachability.proofs.Queues.{queue-all, kept, places, met, place-of, has-at, has-later}
use Rattle.reachability.proofs.Rising.{contains-had, has-contained}
use Rattle.rest_marks.specs.Growing.{roots_on, AreMarked, IsBegun, IsGrown, IsMoreFaultOf, IsOnward}
use Rattle.rest_marks.specs.Marks.{AllKept, IsKept}
use Rattle.rest_marks.specs.Meeting.{AllLead, AreMet, IsDone}
use Rattle.rest_marks.specs.Reached.{is_below, leads_within, IsWordOf, LeadInto, IsReachedFrom, by_root, by_reference, AreReached, IsFaultOf, IsSound}
use Rattle.rest_marks.specs.Surveys.{marks_of, told}
use Rattle.rest_marks.specs.declared.fault.SurveyFault.{SurveyFault}
use Rattle.rest_marks.specs.declared.fault.SurveyFault.TheVariants.{TooLarge, BadRoot, BadReference, BadWeak, ObjectTooLong, ObjectPastEnd, Overlap, OutOfMemory}
use Rattle.rest_marks.proofs.Heads.{head-number, mark-set}
use Rattle.rest_marks.proofs.Lent as lent
use Rattle.rest_marks.proofs.Queued.{queue-of, once-none}
use Rattle.rest_marks.proofs.Reaching.{references_of, IsFollowed, leads-to}
use Rattle.rest_marks.proofs.Spread.{AreDisjoint, IsSpread}
use Rattle.rest_marks.proofs.Surveying.{marks-rising}

-- ---- roots, and more roots

-- what roots reach that only lead to what others reach, those others reach
pub reached-through : (edition : Edition) (words from roots : List ℕ) → ((i : ℕ) → LeadInto words from i → IsReachedFrom edition words roots i)
    → (i : ℕ) → IsReachedFrom edition words from i → IsReachedFrom edition words roots i
reached-through edition words from roots each i (by_root _ leads_there) = each i leads_there
reached-through edition words from roots each j (by_reference i _ reached leads_there) = by_reference i j (reached-through edition words from roots each i reached) leads_there

-- two lists of roots, one behind the other
pub had-cases : (xs ys : List ℕ) (word : ℕ) → has (xs ++ ys) word ≡ true → (has xs word ≡ true) ⊎ (has ys word ≡ true)
had-cases xs ys word there = or_cases (has xs word) (has ys word) (sym (list_any-append (λ k. word == k) xs ys) ∙ there)

pub had-left : (xs ys : List ℕ) (word : ℕ) → has xs word ≡ true → has (xs ++ ys) word ≡ true
had-left xs ys word there = list_any-append (λ k. word == k) xs ys ∙ or_left (has xs word) (has ys word) there

pub had-right : (xs ys : List ℕ) (word : ℕ) → has ys word ≡ true → has (xs ++ ys) word ≡ true
had-right xs ys word there = list_any-append (λ k. word == k) xs ys ∙ or_right (has xs word) (has ys word) there

pub lead-cases : (words xs ys : List ℕ) (i : ℕ) → LeadInto words (xs ++ ys) i → LeadInto words xs i ⊎ LeadInto words ys i
lead-cases words xs ys i leads_there =
    elim (had-cases xs ys (from_address i) (has-contained (xs ++ ys) (from_address i) leads_there.address)) [
      | inl left ↦ inl (record { inside = leads_there.inside; address = contains-had xs (from_address i) left })
      | inr right ↦ inr (record { inside = leads_there.inside; address = contains-had ys (from_address i) right })
    ]

pub lead-left : (words xs ys : List ℕ) (i : ℕ) → LeadInto words xs i → LeadInto words (xs ++ ys) i
lead-left words xs ys i leads_there = record {
  inside = leads_there.inside;
  address = contains-had (xs ++ ys) (from_address i) (had-left xs ys (from_address i) (has-contained xs (from_address i) leads_there.address));
}

pub lead-right : (words xs ys : List ℕ) (i : ℕ) → LeadInto words ys i → LeadInto words (xs ++ ys) i
lead-right words xs ys i leads_there = record {
  inside = leads_there.inside;
  address = contains-had (xs ++ ys) (from_address i) (had-right xs ys (from_address i) (has-contained ys (from_address i) leads_there.address));
}

-- an object is marked if its address is that of a marked one
pub address-had : (marks : List ℕ) (i : ℕ) → has (map from_address marks) (from_address i) ≡ true → has marks i ≡ true
address-had [] i there = absurd (let no : false ≡ true = there in cc)
address-had (mark ∷ marks) i there = elim (or_cases (eqb (from_address i) (from_address mark)) (has (map from_address marks) (from_address i)) there) [
  | inl here ↦ or_left (eqb i mark) (has marks i) (eq-eqb i mark (let same = eqb-true (from_address i) (from_address mark) here in omega (arith, same)))
  | inr later ↦ has-later mark i marks (address-had marks i later)
]

pub had-address : (marks : List ℕ) (i : ℕ) → has marks i ≡ true → has (map from_address marks) (from_address i) ≡ true
had-address [] i there = absurd (let no : false ≡ true = there in cc)
had-address (mark ∷ marks) i there = elim (or_cases (eqb i mark) (has marks i) there) [
  | inl here ↦
      or_left (eqb (from_address i) (from_address mark)) (has (map from_address marks) (from_address i))
      (eq-eqb (from_address i) (from_address mark) (let same = eqb-true i mark here in omega (arith, same)))
  | inr later ↦ has-later (from_address mark) (from_address i) (map from_address marks) (had-address marks i later)
]

pub lead-marked : (words marks : List ℕ) (i : ℕ) → LeadInto words (map from_address marks) i → Contains marks i
lead-marked words marks i leads_there = contains-had marks i (address-had marks i (has-contained (map from_address marks) (from_address i) leads_there.address))

pub marked-lead : (words marks : List ℕ) (i : ℕ) → i < length words → Contains marks i → LeadInto words (map from_address marks) i
marked-lead words marks i inside there = record {
  inside = inside;
  address = contains-had (map from_address marks) (from_address i) (had-address marks i (has-contained marks i there));
}

-- the same objects in another order, and the same roots, reach the same
pub on-same : (edition : Edition) (words xs ys more : List ℕ) → ((i : ℕ) → Contains xs i → Contains ys i)
    → (i : ℕ) → IsReachedFrom edition words (roots_on xs more) i → IsReachedFrom edition words (roots_on ys more) i
on-same edition words xs ys more same =
    reached-through edition words (roots_on xs more) (roots_on ys more) (λ i leads_there.
    elim (lead-cases words (map from_address xs) more i leads_there) [
      | inl old ↦ by_root i (lead-left words (map from_address ys) more i (marked-lead words ys i old.inside (same i (lead-marked words xs i old))))
      | inr new ↦ by_root i (lead-right words (map from_address ys) more i new)
    ])

-- what roots reach, and then more, is what all of them reach together
pub reached-together : (edition : Edition) (words roots marks more after : List ℕ) → AreReached edition words roots marks
    → AreReached edition words (roots_on marks more) after → AreReached edition words (roots ++ more) after
reached-together edition words roots marks more after before grown = record {
  rising = grown.rising;
  reached = λ i there.
      reached-through edition words (roots_on marks more) (roots ++ more) (λ j leads_there.
      elim (lead-cases words (map from_address marks) more j leads_there) [
        | inl old ↦
            reached-through edition words roots (roots ++ more) (λ k first. by_root k (lead-left words roots more k first)) j
            (before.reached j (lead-marked words marks j old))
        | inr new ↦ by_root j (lead-right words roots more j new)
      ]) i (grown.reached i there);
  all = λ i reaches.
      grown.all i
      (reached-through edition words (roots ++ more) (roots_on marks more) (λ j leads_there.
      elim (lead-cases words roots more j leads_there) [
        | inl old ↦ by_root j (lead-left words (map from_address marks) more j (marked-lead words marks j old.inside (before.all j (by_root j old))))
        | inr new ↦ by_root j (lead-right words (map from_address marks) more j new)
      ]) i reaches);
}

-- a fault of one list of marked objects is one of another that has the same
pub fault-same : (edition : Edition) (words xs ys more : List ℕ) (fault : SurveyFault) → ((i : ℕ) → Contains xs i → Contains ys i)
    → IsMoreFaultOf edition words xs more fault → IsMoreFaultOf edition words ys more fault
fault-same edition words xs ys more TooLarge same is = is
fault-same edition words xs ys more (BadRoot k) same is = is
fault-same edition words xs ys more (BadReference j) same (few, is) = (few, (is.0, on-same edition words xs ys more same is.0 is.1, is.2, is.3, is.4, is.5))
fault-same edition words xs ys more (BadWeak j) same (few, is) = (few, (is.0, on-same edition words xs ys more same is.0 is.1, is.2, is.3, is.4, is.5))
fault-same edition words xs ys more (ObjectTooLong i) same (few, is) = (few, (on-same edition words xs ys more same i is.0, is.1))
fault-same edition words xs ys more (ObjectPastEnd i) same (few, is) = (few, (on-same edition words xs ys more same i is.0, is.1))
fault-same edition words xs ys more (Overlap i) same (few, is) =
    (few, (on-same edition words xs ys more same i is.0, is.1, on-same edition words xs ys more same is.1 is.2, is.3, is.4, is.5, is.6))
fault-same edition words xs ys more OutOfMemory same is = is

-- a fault where nothing was marked before
pub fault-none : (edition : Edition) (words roots : List ℕ) (fault : SurveyFault) → length words ≤ most_words edition
    → IsMoreFaultOf edition words [] roots fault → IsFaultOf edition words roots fault
fault-none edition words roots TooLarge few is = inr is
fault-none edition words roots (BadRoot k) few (few_roots, is) = ((few, few_roots), is)
fault-none edition words roots (BadReference j) few (few_roots, is) = ((few, few_roots), is)
fault-none edition words roots (BadWeak j) few (few_roots, is) = ((few, few_roots), is)
fault-none edition words roots (ObjectTooLong i) few (few_roots, is) = ((few, few_roots), is)
fault-none edition words roots (ObjectPastEnd i) few (few_roots, is) = ((few, few_roots), is)
fault-none edition words roots (Overlap i) few (few_roots, is) = ((few, few_roots), is)
fault-none edition words roots OutOfMemory few is = (few, is)

-- ---- marking begins

-- nothing is marked
pub begun-none : (edition : Edition) (words heads bits : List ℕ) → length words ≤ most_words edition → ((i : ℕ) → bit heads i ≡ false) → ((i : ℕ) → bit bits i ≡ false)
    → IsBegun edition words [] heads bits
begun-none edition words heads bits few no_heads no_bits = record {
  few = few;
  met = λ i. no_heads i;
  once = once-none (length words);
  marked = record {
    done = λ i set. absurd (both_ways (bit heads i) (no_heads i) set);
    closed = λ i set. absurd (both_ways (bit heads i) (no_heads i) set);
    only = λ j set. absurd (both_ways (bit bits j) (no_bits j) set);
    apart = λ i j set other order. absurd (both_ways (bit heads i) (no_heads i) set);
  };
}

-- tables of zeros
pub grown-none : (edition : Edition) (words heads bits : List ℕ) (n : ℕ) → length words ≤ most_words edition → n ≡ (length words + 63) / 64
    → heads ≡ replicate n 0 → bits ≡ replicate n 0 → IsGrown edition words [] heads bits
grown-none edition words heads bits n few long heads_are bits_are =
    rw (heads_are, bits_are) (record {
      sized = length-replicate {A = ℕ} n 0 ∙ long;
      same = refl;
      begun = begun-none edition words (replicate n 0) (replicate n 0) few (zeros-bit n) (zeros-bit n);
    })

pub marks-none : (heads : List ℕ) (n : ℕ) → heads ≡ replicate n 0 → marks_of heads ≡ []
marks-none heads n are =
    let i = get_or (marks_of heads) 0 0 in
    nil_from_length (marks_of heads) (elim (cases_eq (length (marks_of heads)) 0) [
      | inl none ↦ none
      | inr some ↦ absurd (both_ways (bit heads i) (subst (λ (xs : List ℕ). bit xs i ≡ false) (sym are) (zeros-bit n i)) (mark-set heads 0 (omega (arith, some))))
    ])

-- an address that is kept is that of a marked object
pub kept-word : (edition : Edition) (heads : List ℕ) (i : ℕ) → i < 2 ^ 31 → or_immediate edition (leads heads) (from_address i) ≡ true → bit heads i ≡ true
kept-word edition heads i small value =
    let back : from_address i - 2 ^ 32 ≡ i = omega arith in
    elim (or_cases (is_immediate edition (from_address i)) (leads heads (from_address i)) value) [
      | inl immediate ↦ absurd (no-immediate edition (from_address i) (omega (arith, small)) immediate)
      | inr to ↦ elim (or_cases (from_address i == 0) (is_address (bit heads) (from_address i)) to) [
        | inl null ↦ absurd (let zero_there = eqb-true (from_address i) 0 null in omega (arith, zero_there))
        | inr address ↦ sym (ap (bit heads) back) ∙ (and_parts (leb (2 ^ 32) (from_address i)) (bit heads (from_address i - 2 ^ 32)) address).1
      ]
    ]

-- so is one among words that are kept
pub kept-marked : (edition : Edition) (heads from : List ℕ) (i : ℕ) → i < 2 ^ 31 → AllKept edition heads from → has from (from_address i) ≡ true → bit heads i ≡ true
kept-marked edition heads from i small all there =
    let at = place-of from (from_address i) there in
    kept-word edition heads i small (subst (λ (w : ℕ). or_immediate edition (leads heads) w ≡ true) at.2 (all at.0 at.1))

-- an address is that of the word at its index
pub address-back : (row : ℕ → Bool) (word : ℕ) → is_address row word ≡ true → word ≡ from_address (word - 2 ^ 32)
address-back row word address =
    let above = leb-true (2 ^ 32) word (and_parts (leb (2 ^ 32) word) (row (word - 2 ^ 32)) address).0 in
    omega (arith, above)

module _ (edition : Edition) (words roots before queue heads bits : List ℕ) (begun : IsBegun edition words before heads bits)
    (from : queue ≡ fold (after_word (is_below (length words))) before roots) where
  stays : (k : ℕ) → k < length before → (k < length queue) × (get_or queue k 0 ≡ get_or before k 0)
  stays k lt = rw from (places (is_below (length words)) before roots k lt)

  -- the objects before are in the queue, at their places
  long : length before ≤ length queue
  long = elim (cases_eq (length before) 0) [
    | inl none ↦ omega (arith, none)
    | inr some ↦ (let last = (stays (length before - 1) (omega (arith, some))).0 in omega (arith, last, some))
  ]

  -- the bit of one of them is set
  begun-set : (k : ℕ) → k < length before → bit heads (get_or before k 0) ≡ true
  begun-set k lt = begun.met (get_or before k 0) ∙ has-at before k lt

  -- all references of theirs were followed before
  pub followed-begun : IsFollowed edition words (roots_on before roots) queue (length before)
  followed-begun = record {
    objects = rw from (queue-all (is_below (length words)) (IsReachedFrom edition words (roots_on before roots)) before roots
        (record {
          of_row = (queue-of (length words) before begun.once).of_row;
          once = begun.once.once;
          holds = λ i there. by_root i (lead-left words (map from_address before) roots i (marked-lead words before i (begun.once.within i there) (contains-had before i there)));
        })
        (λ word there address. by_root (word - 2 ^ 32) (lead-right words (map from_address before) roots (word - 2 ^ 32) (leads-to words roots word there address))));
    from_roots = λ word there. rw from (elim (had-cases (map from_address before) roots word there) [
      | inl old ↦ λ address.
          let back = address-back (is_below (length words)) word address in
          kept (is_below (length words)) before roots (word - 2 ^ 32)
          (address-had before (word - 2 ^ 32) (subst (λ (w : ℕ). has (map from_address before) w ≡ true) back old))
      | inr new ↦ met (is_below (length words)) before roots word new
    ]);
    closed = λ k word below there address.
        let same = (stays k below).1 in
        let i = word - 2 ^ 32 in
        let back = address-back (is_below (length words)) word address in
        let inside : i < length words = ltb-true i (length words) (and_parts (leb (2 ^ 32) word) (is_below (length words) i) address).1 in
        let object = get_or before k 0 in
        let had : has (references_of edition words object) (from_address i) ≡ true =
        subst (λ (w : ℕ). has (references_of edition words object) w ≡ true) back
        (subst (λ (n : ℕ). has (references_of edition words n) word ≡ true) same there) in
        let set = kept-marked edition heads (references_of edition words object) i (omega (arith, inside, begun.few, words_most edition))
        (begun.marked.closed object (begun-set k below)) had in
        rw from (kept (is_below (length words)) before roots i (sym (begun.met i) ∙ set));
    within = long;
  }

  -- and all their words are taken
  pub spread-begun : (now : List ℕ) → AreMet queue now → length now ≡ length bits → IsSpread edition words queue (length before) now bits
  spread-begun now is_met same = record {
    met = is_met;
    same = same;
    done = λ k lt. subst (IsDone edition words bits) (sym (stays k lt).1) (begun.marked.done (get_or before k 0) (begun-set k lt));
    only = λ j set.
        let at = begun.marked.only j set in
        let place = place-of before at.0 (sym (begun.met at.0) ∙ at.1) in
        (place.0, place.1, subst (λ (i : ℕ). IsWordOf edition words i j) (sym ((stays place.0 place.1).1 ∙ place.2)) at.2);
    apart = λ k l order lt.
        let first : k < length before = omega (arith, order, lt) in
        let one = begun-set k first in
        let two = begun-set l lt in
        let are : AreDisjoint edition words (get_or before k 0) (get_or before l 0) = record {
          clear = λ n of_one of_two. elim (cases_order (get_or before k 0) (get_or before l 0)) [
            | inl equal ↦ absurd (both_ways (eqb (get_or before k 0) (get_or before l 0)) (apart_from_distinct eqb before k l 0 begun.once.once order lt)
                (eq-eqb (get_or before k 0) (get_or before l 0) equal))
            | inr (inl less) ↦ (let ends = begun.marked.apart (get_or before k 0) (get_or before l 0) one two less in omega (arith, ends, of_one.1, of_two.0))
            | inr (inr more) ↦ (let ends = begun.marked.apart (get_or before l 0) (get_or before k 0) two one more in omega (arith, ends, of_two.1, of_one.0))
          ];
        } in
        subst (λ (i : ℕ). AreDisjoint edition words i (get_or queue l 0)) (sym (stays k first).1)
        (subst (AreDisjoint edition words (get_or before k 0)) (sym (stays l lt).1) are);
  }

-- the objects whose bits are set, as a list
pub mark-of : (heads : List ℕ) (i : ℕ) → bit heads i ≡ true → Contains (marks_of heads) i
mark-of heads i set = let at = head-number heads i set in subst (Contains (marks_of heads)) at.2 (contains-had (marks_of heads) (get_or (marks_of heads) at.0 0) (has-at (marks_of heads) at.0 at.1))

pub set-of : (heads : List ℕ) (i : ℕ) → Contains (marks_of heads) i → bit heads i ≡ true
set-of heads i there = All-contains (λ (x : ℕ). bit heads x ≡ true) (marks_of heads) i (filter_passes (bit heads) (range_with_len 0 (64 * length heads))) there

-- ---- and ends

-- words that lead to words are kept, if each word to which they lead is marked
pub lead-kept : (edition : Edition) (words from heads : List ℕ) → AllLead edition (length words) from → ((i : ℕ) → LeadInto words from i → bit heads i ≡ true) → AllKept edition heads from
lead-kept edition words from heads lead lives k lt =
    let word = get_or from k 0 in
    elim (or_cases (is_immediate edition word) (leads_within (length words) word) (lead k lt)) [
      | inl immediate ↦ or_left (is_immediate edition word) (leads heads word) immediate
      | inr within ↦ or_right (is_immediate edition word) (leads heads word) (elim (or_cases (word == 0) (is_address (is_below (length words)) word) within) [
        | inl null ↦ or_left (word == 0) (is_address (bit heads) word) null
        | inr address ↦
            let i = word - 2 ^ 32 in
            let parts = and_parts (leb (2 ^ 32) word) (is_below (length words) i) address in
            let same : word ≡ from_address i = address-back (is_below (length words)) word address in
            let to : LeadInto words from i = record { inside = ltb-true i (length words) parts.1; address = subst (Contains from) same (contains-had from word (has-at from k lt)) } in
            or_right (word == 0) (is_address (bit heads) word) (and_from (leb (2 ^ 32) word) (bit heads i) parts.0 (lives i to))
      ])
    ]

module _ (edition : Edition) (words queue more heads bits : List ℕ) (is : IsOnward edition words queue more heads bits) where
  pub onward-marked : AreMarked edition words heads bits
  onward-marked = record {
    done = is.done;
    closed = λ i set. lead-kept edition words (object_at edition words i).references heads (is.done i set).references (λ j to. is.all j (by_reference i j (is.reached i set) to));
    only = is.only;
    apart = is.apart;
  }

  pub onward-roots : AllKept edition heads more
  onward-roots = lead-kept edition words more heads is.roots_lead (λ j to. is.all j (by_root j (lead-right words (map from_address queue) more j to)))

  -- the set bits are exactly those of what the objects of before and the roots reach
  pub onward-reached : (old : List ℕ) → AreMet queue old → AreReached edition words (roots_on (marks_of old) more) (marks_of heads)
  onward-reached old met_old = record {
    rising = marks-rising heads;
    reached = λ i there.
        on-same edition words queue (marks_of old) more (λ j had. mark-of old j (met_old j ∙ has-contained queue j had)) i
        (is.reached i (All-contains (λ (x : ℕ). bit heads x ≡ true) (marks_of heads) i (filter_passes (bit heads) (range_with_len 0 (64 * length heads))) there));
    all = λ i reaches. mark-of heads i (is.all i (on-same edition words (marks_of old) queue more (λ j had. contains-had queue j (sym (met_old j) ∙ set-of old j had)) i reaches));
  }

-- ---- it settles

module _ (edition : Edition) (words heads bits : List ℕ) (few : length words ≤ most_words edition) (marked : AreMarked edition words heads bits) where
  marked-kept : (i : ℕ) → bit heads i ≡ true → IsKept edition words heads i
  marked-kept i set = record { placed = (marked.done i set).placed; references = marked.closed i set; weak = (marked.done i set).weak }

  pub marked-sound : (roots : List ℕ) → length roots ≤ most_roots edition → AllKept edition heads roots
      → IsSound (record { edition = edition; words = words; marks = marks_of heads; roots = roots })
  marked-sound roots few_roots kept_roots = lent.lent-sound edition words roots heads bits few few_roots kept_roots marked-kept marked.apart

  pub marked-told : IsSound (told edition words heads)
  marked-told = lent.told-sound edition words [] heads bits few (omega arith) (λ k lt. absurd (omega (arith, lt))) marked-kept marked.apart

  pub marked-indices : length words ≤ 64 * length bits → set_bits bits ≡ live_indices (live (told edition words heads))
  marked-indices room =
      lent.told-indices edition words [] heads bits few (omega arith) (λ k lt. absurd (omega (arith, lt))) marked-kept marked.apart
      (λ i j set of. (marked.done i set).run j of) marked.only room
