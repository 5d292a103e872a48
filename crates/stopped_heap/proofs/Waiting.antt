-- Objects that wait for their finalizers: what they lead to, which are ready, and what is kept at last.
use Rattle.std.proofs.Common.{◌≡◌, ◌≢◌, ℕ, ◌+◌, ◌-◌, ◌^◌, ◌<◌, ◌≤◌, ◌==◌, true, false, not, leb, List, [], ◌∷◌, ◌++◌, inl, inr, All, Contains, filter, length, get_or, map, take, drop, append_assoc, refl, sym, ap, subst, ◌∙◌, arith, length-append, length-take, length-drop}
use Rattle.std.specs.List.{flat_map, list_any}
use Rattle.std.proofs.lemmas.Bool.{both_ways, cases_Bool, cases_lt, leb-true, ltb-true, not-true, and_parts, or_cases, or_left, or_right}
use Rattle.std.proofs.Math.ListN.{get_or-append}
use Rattle.std.proofs.Math.Seq.{take-add}
use Rattle.std.proofs.lemmas.List.{get_or_default, get_or-append-add, get_or-take, get_or-drop, take-append-drop, take_more, flat_map_more}
use Rattle.std.proofs.lemmas.List.Elements.{filter_passes, All-contains, All-filter, Contains-get_or}
use Rattle.std.proofs.lemmas.List.Filters.{length-filter_both}
use Rattle.heap_layout.specs.declared.edition.Edition.{Edition}
use Rattle.heap_layout.specs.Bits.{bit}
use Rattle.heap_layout.specs.Heap.{from_address, object_at, is_target, is_value, IsValue}
use Rattle.heap_layout.specs.Limits.{most_words, most_roots}
use Rattle.heap_layout.specs.Values.{is_immediate}
use Rattle.heap_layout.proofs.Bounds.{words_most}
use Rattle.reachability.specs.Queue.{has, is_address}
use Rattle.reachability.proofs.Queues.{has-at, has-first, has-later, place-of}
use Rattle.reachability.proofs.Rising.{contains-had, has-contained}
use Rattle.rest_marks.specs.Growing.{roots_on, IsBegun, IsMoreFaultOf}
use Rattle.stopped_heap.specs.Guarded.{is_lost}
use Rattle.rest_marks.specs.Meeting.{AllLead}
use Rattle.stopped_heap.specs.Ordered.{references_of_all, ReachEach}
use Rattle.rest_marks.specs.Reached.{is_below, is_within, leads_within, LeadInto, IsReachedFrom, by_root, by_reference, AreReached, IsHeapFaultOf}
use Rattle.rest_marks.specs.Surveys.{marks_of}
use Rattle.rest_marks.specs.declared.fault.SurveyFault.{SurveyFault}
use Rattle.rest_marks.specs.declared.fault.SurveyFault.TheVariants.{TooLarge, BadRoot, BadReference, BadWeak, ObjectTooLong, ObjectPastEnd, Overlap, OutOfMemory}
use Rattle.rest_marks.proofs.Grown.{had-cases, had-left, had-right, kept-marked, lead-cases, lead-left, lead-marked, lead-right, mark-of, marked-lead, reached-through, set-of}
use Rattle.stopped_heap.proofs.Guardians.{filter-had, had-filter, value-mark, value-more}
use Rattle.rest_marks.proofs.Reaching.{reached-inside}
use Rattle.rest_marks.proofs.Surveying.{marks-rising}

-- ---- what is kept so far

-- what is reached from marked objects is marked
self-closed : (edition : Edition) (words queue heads bits : List ℕ) → IsBegun edition words queue heads bits
    → (i : ℕ) → IsReachedFrom edition words (map from_address (marks_of heads)) i → bit heads i ≡ true
self-closed edition words queue heads bits begun i (by_root _ leads_there) = set-of heads i (lead-marked words (marks_of heads) i leads_there)
self-closed edition words queue heads bits begun j (by_reference i _ reached leads_there) =
    let references = (object_at edition words i).references in
    kept-marked edition heads references j (omega (arith, leads_there.inside, begun.few, words_most edition))
    (begun.marked.closed i (self-closed edition words queue heads bits begun i reached)) (has-contained references (from_address j) leads_there.address)

-- a survey that grows reaches just what it has marked
pub self-reached : (edition : Edition) (words queue heads bits : List ℕ) → IsBegun edition words queue heads bits
    → AreReached edition words (map from_address (marks_of heads)) (marks_of heads)
self-reached edition words queue heads bits begun = record {
  rising = marks-rising heads;
  reached = λ i there. by_root i (marked-lead words (marks_of heads) i (begun.once.within i (sym (begun.met i) ∙ set-of heads i there)) there);
  all = λ i reached. mark-of heads i (self-closed edition words queue heads bits begun i reached);
}

-- ---- the references of objects that wait

-- a word among them is a reference of one of the objects
reference-of : (edition : Edition) (words waiting : List ℕ) (word : ℕ) → has (references_of_all edition words waiting) word ≡ true
    → (w : ℕ) × (has waiting w ≡ true) × (has (object_at edition words (w - 2 ^ 32)).references word ≡ true)
reference-of edition words [] word there = absurd (let no : false ≡ true = there in cc)
reference-of edition words (w ∷ rest) word there =
    elim (had-cases (object_at edition words (w - 2 ^ 32)).references (references_of_all edition words rest) word there) [
      | inl here ↦ (w, has-first w rest, here)
      | inr later ↦ (let at = reference-of edition words rest word later in (at.0, has-later w at.0 rest at.1, at.2))
    ]

-- what they lead to is reached, if the objects are
pub references-reached : (edition : Edition) (words waiting roots : List ℕ) → ((w : ℕ) → has waiting w ≡ true → IsReachedFrom edition words roots (w - 2 ^ 32))
    → (j : ℕ) → LeadInto words (references_of_all edition words waiting) j → IsReachedFrom edition words roots j
references-reached edition words waiting roots each j leads_there =
    let at = reference-of edition words waiting (from_address j) (has-contained (references_of_all edition words waiting) (from_address j) leads_there.address) in
    by_reference (at.0 - 2 ^ 32) j (each at.0 at.1)
    (record { inside = leads_there.inside; address = contains-had (object_at edition words (at.0 - 2 ^ 32)).references (from_address j) at.2 })

-- of one object more
pub references-more : (edition : Edition) (words waiting : List ℕ) (k : ℕ) → k < length waiting
    → references_of_all edition words (take (k + 1) waiting) ≡ references_of_all edition words (take k waiting) ++ (object_at edition words (get_or waiting k 0 - 2 ^ 32)).references
references-more edition words waiting k lt =
    let f : ℕ → List ℕ = λ word. (object_at edition words (word - 2 ^ 32)).references in
    ap (flat_map f) (take_more waiting k 0 lt) ∙ sym (flat_map_more f [] (take k waiting) (get_or waiting k 0))

-- two lists of words that lead to words, one behind the other
pub lead-append : (edition : Edition) (n : ℕ) (xs ys : List ℕ) → AllLead edition n xs → AllLead edition n ys → AllLead edition n (xs ++ ys)
lead-append edition n xs ys of_xs of_ys k lt = elim (cases_lt k (length xs)) [
  | inl first ↦ subst (λ (w : ℕ). is_within edition n w ≡ true) (sym (get_or-append xs ys 0 k first)) (of_xs k first)
  | inr later ↦
      let m = k - length xs in
      let same : k ≡ length xs + m = omega (arith, later) in
      let inside : m < length ys = omega (arith, lt, later, length-append xs ys) in
      subst (λ (w : ℕ). is_within edition n w ≡ true) (sym (ap (λ (j : ℕ). get_or (xs ++ ys) j 0) same ∙ get_or-append-add xs ys m 0)) (of_ys m inside)
]

-- ---- a list of words in pieces

-- one piece more
pub piece-more : (xs : List ℕ) (next end : ℕ) → next ≤ end → take end xs ≡ take next xs ++ take (end - next) (drop next xs)
piece-more xs next end order =
    let same : end ≡ next + (end - next) = omega (arith, order) in
    ap (λ (n : ℕ). take n xs) same ∙ take-add next (end - next) xs

-- the words before it, and those in it, are words of the list
take-has : (xs : List ℕ) (n word : ℕ) → has (take n xs) word ≡ true → has xs word ≡ true
take-has xs n word there = subst (λ (ys : List ℕ). has ys word ≡ true) (take-append-drop n xs) (had-left (take n xs) (drop n xs) word there)

piece-has : (xs : List ℕ) (next count word : ℕ) → has (take count (drop next xs)) word ≡ true → has xs word ≡ true
piece-has xs next count word there =
    subst (λ (ys : List ℕ). has ys word ≡ true) (take-append-drop next xs) (had-right (take next xs) (drop next xs) word (take-has (drop next xs) count word there))

piece-lead : (edition : Edition) (n : ℕ) (xs : List ℕ) (next count : ℕ) → AllLead edition n xs → AllLead edition n (take count (drop next xs))
piece-lead edition n xs next count lead k lt =
    let long = length-take count (drop next xs) in
    let short : k < count = omega (arith, lt, long) in
    let read : get_or (take count (drop next xs)) k 0 ≡ get_or xs (next + k) 0 = get_or-take count (drop next xs) k 0 short ∙ get_or-drop next xs k 0 in
    let inside : next + k < length xs = omega (arith, lt, long, length-drop next xs) in
    subst (λ (w : ℕ). is_within edition n w ≡ true) (sym read) (lead (next + k) inside)

-- what is reached with one piece more
pub piece-grown : (edition other : Edition) (words ws more marks after : List ℕ) (next end : ℕ) → other ≡ edition → ws ≡ words → next ≤ end
    → ((rs : List ℕ) → AreReached other ws rs marks → AreReached other ws (rs ++ take (end - next) (drop next more)) after)
    → (roots : List ℕ) → AreReached edition words (roots ++ take next more) marks → AreReached edition words (roots ++ take end more) after
piece-grown edition other words ws more marks after next end same same_words order step roots before =
    let piece = take (end - next) (drop next more) in
    let from = roots ++ take next more in
    let on : AreReached other ws from marks =
    subst (λ (e : Edition). AreReached e ws from marks) (sym same) (subst (λ (vs : List ℕ). AreReached edition vs from marks) (sym same_words) before) in
    let here : AreReached edition words (from ++ piece) after =
    subst (λ (e : Edition). AreReached e words (from ++ piece) after) same (subst (λ (vs : List ℕ). AreReached other vs (from ++ piece) after) same_words (step from on)) in
    subst (λ (xs : List ℕ). AreReached edition words xs after)
    (append_assoc roots (take next more) piece ∙ ap (λ (xs : List ℕ). roots ++ xs) (sym (piece-more more next end order))) here

-- ---- words that are lost

-- a word that is lost is no value
lost-value : (edition : Edition) (marks : List ℕ) (word : ℕ) → is_lost edition marks word ≡ true → IsValue edition marks word → ⊥
lost-value edition marks word lost value = both_ways (is_value edition marks word) (not-true (is_value edition marks word) lost) value

-- a word that leads to words and to no marked object is the address of a word
pub lost-address : (edition : Edition) (words marks : List ℕ) (word : ℕ) → is_within edition (length words) word ≡ true → is_lost edition marks word ≡ true
    → (2 ^ 32 ≤ word) × (word - 2 ^ 32 < length words)
lost-address edition words marks word within lost =
    elim (or_cases (is_immediate edition word) (leads_within (length words) word) within) [
      | inl immediate ↦ absurd (lost-value edition marks word lost (or_left (is_immediate edition word) (is_target marks word) immediate))
      | inr leads_there ↦ elim (or_cases (word == 0) (is_address (is_below (length words)) word) leads_there) [
        | inl null ↦
            absurd (lost-value edition marks word lost
            (or_right (is_immediate edition word) (is_target marks word) (or_left (word == 0) (list_any (λ mark. from_address mark == word) marks) null)))
        | inr address ↦
            let parts = and_parts (leb (2 ^ 32) word) (is_below (length words) (word - 2 ^ 32)) address in
            (leb-true (2 ^ 32) word parts.0, ltb-true (word - 2 ^ 32) (length words) parts.1)
      ]
    ]

-- those of these words that are lost are addresses of words
pub lost-addresses : (edition : Edition) (words marks waiting : List ℕ) → AllLead edition (length words) waiting → (k : ℕ) → k < length (filter (is_lost edition marks) waiting)
    → (2 ^ 32 ≤ get_or (filter (is_lost edition marks) waiting) k 0) × (get_or (filter (is_lost edition marks) waiting) k 0 - 2 ^ 32 < length words)
lost-addresses edition words marks waiting lead k lt =
    let lost = filter (is_lost edition marks) waiting in
    let within : All (λ word. is_within edition (length words) word ≡ true) waiting = λ j d inside.
    subst (λ (w : ℕ). is_within edition (length words) w ≡ true) (get_or_default waiting j 0 d inside) (lead j inside)
    in
    lost-address edition words marks (get_or lost k 0) (All-filter (is_lost edition marks) (λ word. is_within edition (length words) word ≡ true) waiting within k 0 lt)
    (filter_passes (is_lost edition marks) waiting k 0 lt)

-- each of them is one of the words, and leads to the object at its index
pub lost-lead : (edition : Edition) (words marks waiting : List ℕ) → AllLead edition (length words) waiting → (w : ℕ) → has (filter (is_lost edition marks) waiting) w ≡ true
    → LeadInto words waiting (w - 2 ^ 32)
lost-lead edition words marks waiting lead w there =
    let lost = filter (is_lost edition marks) waiting in
    let at = place-of lost w there in
    let here = lost-addresses edition words marks waiting lead at.0 at.1 in
    let is : w ≡ from_address (w - 2 ^ 32) = (let same = at.2 in let low = here.0 in omega (arith, low, same)) in
    record {
      inside = (let same = at.2 in let inside = here.1 in omega (arith, inside, same));
      address = subst (Contains waiting) is (contains-had waiting w (had-filter (is_lost edition marks) waiting w there));
    }

-- ---- faults

-- a fault of what roots reach is one of what others reach that reach as much
pub heap-heap : (edition : Edition) (words from roots : List ℕ) (fault : SurveyFault) → ((i : ℕ) → LeadInto words from i → IsReachedFrom edition words roots i)
    → ((k : ℕ) → fault ≢ BadRoot k) → IsHeapFaultOf edition words from fault → IsHeapFaultOf edition words roots fault
heap-heap edition words from roots TooLarge each never is = is
heap-heap edition words from roots (BadRoot k) each never is = absurd (never k refl)
heap-heap edition words from roots (BadReference j) each never is = (is.0, reached-through edition words from roots each is.0 is.1, is.2, is.3, is.4, is.5)
heap-heap edition words from roots (BadWeak j) each never is = (is.0, reached-through edition words from roots each is.0 is.1, is.2, is.3, is.4, is.5)
heap-heap edition words from roots (ObjectTooLong i) each never is = (reached-through edition words from roots each i is.0, is.1)
heap-heap edition words from roots (ObjectPastEnd i) each never is = (reached-through edition words from roots each i is.0, is.1)
heap-heap edition words from roots (Overlap i) each never is =
    (reached-through edition words from roots each i is.0, is.1, reached-through edition words from roots each is.1 is.2, is.3, is.4, is.5, is.6)
heap-heap edition words from roots OutOfMemory each never is = tt

-- more roots that all lead to words have no bad one
pub more-never : (edition : Edition) (words marks more : List ℕ) (fault : SurveyFault) → AllLead edition (length words) more → IsMoreFaultOf edition words marks more fault
    → (k : ℕ) → fault ≢ BadRoot k
more-never edition words marks more fault lead is k same =
    let at : IsMoreFaultOf edition words marks more (BadRoot k) = subst (IsMoreFaultOf edition words marks more) same is in
    both_ways (is_within edition (length words) (get_or more k 0)) at.1.1 (lead k at.1.0)

-- a fault of a survey that goes on from not too many more roots
pub more-heap : (edition : Edition) (words marks more roots : List ℕ) (fault : SurveyFault) → length more ≤ most_roots edition → AllLead edition (length words) more
    → ((i : ℕ) → LeadInto words (roots_on marks more) i → IsReachedFrom edition words roots i) → IsMoreFaultOf edition words marks more fault
    → IsHeapFaultOf edition words roots fault
more-heap edition words marks more roots TooLarge few lead each is = absurd (let many : most_roots edition < length more = is in omega (arith, many, few))
more-heap edition words marks more roots (BadRoot k) few lead each is = absurd (more-never edition words marks more (BadRoot k) lead is k refl)
more-heap edition words marks more roots (BadReference j) few lead each (_, is) =
    heap-heap edition words (roots_on marks more) roots (BadReference j) each (λ k same. absurd (let no : BadReference j ≡ BadRoot k = same in cc)) is
more-heap edition words marks more roots (BadWeak j) few lead each (_, is) =
    heap-heap edition words (roots_on marks more) roots (BadWeak j) each (λ k same. absurd (let no : BadWeak j ≡ BadRoot k = same in cc)) is
more-heap edition words marks more roots (ObjectTooLong i) few lead each (_, is) =
    heap-heap edition words (roots_on marks more) roots (ObjectTooLong i) each (λ k same. absurd (let no : ObjectTooLong i ≡ BadRoot k = same in cc)) is
more-heap edition words marks more roots (ObjectPastEnd i) few lead each (_, is) =
    heap-heap edition words (roots_on marks more) roots (ObjectPastEnd i) each (λ k same. absurd (let no : ObjectPastEnd i ≡ BadRoot k = same in cc)) is
more-heap edition words marks more roots (Overlap i) few lead each (_, is) =
    heap-heap edition words (roots_on marks more) roots (Overlap i) each (λ k same. absurd (let no : Overlap i ≡ BadRoot k = same in cc)) is
more-heap edition words marks more roots OutOfMemory few lead each is = tt

-- and back
pub heap-more : (edition : Edition) (words marks more : List ℕ) (fault : SurveyFault) → length more ≤ most_roots edition → IsHeapFaultOf edition words (roots_on marks more) fault
    → ((k : ℕ) → fault ≢ BadRoot k) → IsMoreFaultOf edition words marks more fault
heap-more edition words marks more TooLarge few is never = absurd is
heap-more edition words marks more (BadRoot k) few is never = absurd (never k refl)
heap-more edition words marks more (BadReference j) few is never = (few, is)
heap-more edition words marks more (BadWeak j) few is never = (few, is)
heap-more edition words marks more (ObjectTooLong i) few is never = (few, is)
heap-more edition words marks more (ObjectPastEnd i) few is never = (few, is)
heap-more edition words marks more (Overlap i) few is never = (few, is)
heap-more edition words marks more OutOfMemory few is never = few

-- a fault that a piece meets is none of a bad root
pub piece-never : (edition other : Edition) (words ws more marks : List ℕ) (next end : ℕ) (fault : SurveyFault) → other ≡ edition → ws ≡ words → AllLead edition (length words) more
    → IsMoreFaultOf other ws marks (take (end - next) (drop next more)) fault → (k : ℕ) → fault ≢ BadRoot k
piece-never edition other words ws more marks next end fault same same_words lead is =
    let piece = take (end - next) (drop next more) in
    more-never edition words marks piece fault (piece-lead edition (length words) more next (end - next) lead)
    (subst (λ (e : Edition). IsMoreFaultOf e words marks piece fault) same (subst (λ (vs : List ℕ). IsMoreFaultOf other vs marks piece fault) same_words is))

-- it is one of what the whole list reaches
pub piece-fault : (edition other : Edition) (words ws more marks : List ℕ) (next end : ℕ) (fault : SurveyFault) → other ≡ edition → ws ≡ words → end ≤ next + most_roots edition
    → AllLead edition (length words) more → IsMoreFaultOf other ws marks (take (end - next) (drop next more)) fault
    → (roots : List ℕ) → AreReached edition words (roots ++ take next more) marks → IsHeapFaultOf edition words (roots ++ more) fault
piece-fault edition other words ws more marks next end fault same same_words few lead is roots reached =
    let piece = take (end - next) (drop next more) in
    let short : length piece ≤ most_roots edition = omega (arith, few, length-take (end - next) (drop next more)) in
    let here : IsMoreFaultOf edition words marks piece fault =
    subst (λ (e : Edition). IsMoreFaultOf e words marks piece fault) same (subst (λ (vs : List ℕ). IsMoreFaultOf other vs marks piece fault) same_words is) in
    more-heap edition words marks piece (roots ++ more) fault short (piece-lead edition (length words) more next (end - next) lead) (λ i leads_there.
    elim (lead-cases words (map from_address marks) piece i leads_there) [
      | inl old ↦
          reached-through edition words (roots ++ take next more) (roots ++ more) (λ j there.
          elim (lead-cases words roots (take next more) j there) [
            | inl first ↦ by_root j (lead-left words roots more j first)
            | inr later ↦
                let had = take-has more next (from_address j) (has-contained (take next more) (from_address j) later.address) in
                by_root j (lead-right words roots more j (record { inside = later.inside; address = contains-had more (from_address j) had }))
          ]) i (reached.reached i (lead-marked words marks i old))
      | inr new ↦
          let had = piece-has more next (end - next) (from_address i) (has-contained piece (from_address i) new.address) in
          by_root i (lead-right words roots more i (record { inside = new.inside; address = contains-had more (from_address i) had }))
    ]) here

-- a fault that the references of objects that wait meet
pub fault-led : (edition : Edition) (words marks waiting : List ℕ) (fault : SurveyFault) → length waiting ≤ most_roots edition → AllLead edition (length words) waiting
    → IsHeapFaultOf edition words (map from_address marks ++ references_of_all edition words (filter (is_lost edition marks) waiting)) fault
    → ((k : ℕ) → fault ≢ BadRoot k) → IsMoreFaultOf edition words marks waiting fault
fault-led edition words marks waiting fault few lead is never =
    let lost = filter (is_lost edition marks) waiting in
    let references = references_of_all edition words lost in
    heap-more edition words marks waiting fault few
    (heap-heap edition words (map from_address marks ++ references) (roots_on marks waiting) fault (λ j leads_there.
    elim (lead-cases words (map from_address marks) references j leads_there) [
      | inl old ↦ by_root j (lead-left words (map from_address marks) waiting j old)
      | inr new ↦
          references-reached edition words lost (roots_on marks waiting) (λ w there.
          by_root (w - 2 ^ 32) (lead-right words (map from_address marks) waiting (w - 2 ^ 32) (lost-lead edition words marks waiting lead w there))) j new
    ]) never is) never

-- the objects that wait are reached, each from its word
pub lost-each : (edition : Edition) (words marks waiting : List ℕ) → AllLead edition (length words) waiting
    → ReachEach edition words (roots_on marks waiting) (filter (is_lost edition marks) waiting)
lost-each edition words marks waiting lead k lt =
    let lost = filter (is_lost edition marks) waiting in
    let w = get_or lost k 0 in
    by_root (w - 2 ^ 32) (lead-right words (map from_address marks) waiting (w - 2 ^ 32) (lost-lead edition words marks waiting lead w (has-at lost k lt)))

-- ---- what is kept at last

module _ (edition : Edition) (words marks waiting led : List ℕ) (lead : AllLead edition (length words) waiting)
    (first : AreReached edition words (map from_address marks ++ references_of_all edition words (filter (is_lost edition marks) waiting)) led)
  where
    lost-reached : (w : ℕ) → has (filter (is_lost edition marks) waiting) w ≡ true → IsReachedFrom edition words (roots_on marks waiting) (w - 2 ^ 32)
    lost-reached w there = by_root (w - 2 ^ 32) (lead-right words (map from_address marks) waiting (w - 2 ^ 32) (lost-lead edition words marks waiting lead w there))

    led-reached : (i : ℕ) → Contains led i → IsReachedFrom edition words (roots_on marks waiting) i
    led-reached i there =
        reached-through edition words (map from_address marks ++ references_of_all edition words (filter (is_lost edition marks) waiting)) (roots_on marks waiting) (λ j leads_there.
        elim (lead-cases words (map from_address marks) (references_of_all edition words (filter (is_lost edition marks) waiting)) j leads_there) [
          | inl old ↦ by_root j (lead-left words (map from_address marks) waiting j old)
          | inr new ↦ references-reached edition words (filter (is_lost edition marks) waiting) (roots_on marks waiting) lost-reached j new
        ]) i (first.reached i there)

    -- a fault that the ready ones meet
    pub fault-ready : (fault : SurveyFault) → length waiting ≤ most_roots edition → IsMoreFaultOf edition words led (filter (is_lost edition led) waiting) fault
        → IsMoreFaultOf edition words marks waiting fault
    fault-ready fault few_roots is =
        let lost = filter (is_lost edition led) waiting in
        let long = length-filter_both (is_value edition led) (is_lost edition led) (λ _. refl) waiting in
        let within : All (λ word. is_within edition (length words) word ≡ true) waiting = λ j d inside.
        subst (λ (w : ℕ). is_within edition (length words) w ≡ true) (get_or_default waiting j 0 d inside) (lead j inside)
        in
        let of_lost = All-filter (is_lost edition led) (λ word. is_within edition (length words) word ≡ true) waiting within in
        heap-more edition words marks waiting fault few_roots
        (more-heap edition words led lost (roots_on marks waiting) fault (omega (arith, long, few_roots)) (λ k lt. of_lost k 0 lt) (λ j leads_there.
        elim (lead-cases words (map from_address led) lost j leads_there) [
          | inl old ↦ led-reached j (lead-marked words led j old)
          | inr new ↦
              let had = had-filter (is_lost edition led) waiting (from_address j) (has-contained lost (from_address j) new.address) in
              by_root j (lead-right words (map from_address marks) waiting j (record { inside = new.inside; address = contains-had waiting (from_address j) had }))
        ]) is)
        (more-never edition words led lost fault (λ k lt. of_lost k 0 lt) is)

module _ (edition : Edition) (words marks waiting led after : List ℕ) (few : length words ≤ most_words edition) (lead : AllLead edition (length words) waiting)
    (first : AreReached edition words (map from_address marks ++ references_of_all edition words (filter (is_lost edition marks) waiting)) led)
    (second : AreReached edition words (roots_on led (filter (is_lost edition led) waiting)) after)
  where
    -- what was marked before the ready ones stays marked
    led-after : (i : ℕ) → Contains led i → Contains after i
    led-after i there =
        let inside = reached-inside edition words (roots_on marks waiting) i (led-reached edition words marks waiting led lead first i there) in
        second.all i (by_root i (lead-left words (map from_address led) (filter (is_lost edition led) waiting) i (marked-lead words led i inside there)))

    -- just what the words that wait reach, beside what was kept
    pub waiting-reached : AreReached edition words (roots_on marks waiting) after
    waiting-reached = record {
      rising = second.rising;
      reached = λ i there.
          reached-through edition words (roots_on led (filter (is_lost edition led) waiting)) (roots_on marks waiting) (λ j leads_there.
          elim (lead-cases words (map from_address led) (filter (is_lost edition led) waiting) j leads_there) [
            | inl old ↦ led-reached edition words marks waiting led lead first j (lead-marked words led j old)
            | inr new ↦
                let had = had-filter (is_lost edition led) waiting (from_address j) (has-contained (filter (is_lost edition led) waiting) (from_address j) new.address) in
                by_root j (lead-right words (map from_address marks) waiting j (record { inside = new.inside; address = contains-had waiting (from_address j) had }))
          ]) i (second.reached i there);
      all = λ i reached.
          second.all i
          (reached-through edition words (roots_on marks waiting) (roots_on led (filter (is_lost edition led) waiting)) (λ j leads_there.
          elim (lead-cases words (map from_address marks) waiting j leads_there) [
            | inl old ↦
                let kept = first.all j (by_root j (lead-left words (map from_address marks) (references_of_all edition words (filter (is_lost edition marks) waiting)) j old)) in
                by_root j (lead-left words (map from_address led) (filter (is_lost edition led) waiting) j (marked-lead words led j old.inside kept))
            | inr new ↦ elim (cases_Bool (is_value edition led (from_address j))) [
              | inl value ↦
                  let kept = value-mark edition led j (omega (arith, new.inside, few, words_most edition)) value in
                  by_root j (lead-left words (map from_address led) (filter (is_lost edition led) waiting) j (marked-lead words led j new.inside kept))
              | inr other ↦
                  let had = filter-had (is_lost edition led) waiting (from_address j) (has-contained waiting (from_address j) new.address) (ap not other) in
                  by_root j (lead-right words (map from_address led) (filter (is_lost edition led) waiting) j
                  (record { inside = new.inside; address = contains-had (filter (is_lost edition led) waiting) (from_address j) had }))
            ]
          ]) i reached);
    }

    -- the words that wait lead there
    pub waiting-leads : All (IsValue edition after) (filter (is_lost edition led) waiting) → All (IsValue edition after) waiting
    waiting-leads of_lost = λ k d lt.
        let word = get_or waiting k d in
        elim (cases_Bool (is_value edition led word)) [
          | inl value ↦ value-more edition led after led-after word value
          | inr other ↦
              let lost = filter (is_lost edition led) waiting in
              All-contains (IsValue edition after) lost word of_lost
              (contains-had lost word (filter-had (is_lost edition led) waiting word (has-contained waiting word (Contains-get_or waiting k d lt)) (ap not other)))
        ]

-- the words that are lost, as they were taken
pub lost-is : (edition other : Edition) (marks waiting taken order before : List ℕ) → taken ≡ order → order ≡ before ++ filter (is_lost other marks) waiting → before ≡ [] → other ≡ edition
    → taken ≡ filter (is_lost edition marks) waiting
lost-is edition other marks waiting taken order before taken_is order_is none same =
    taken_is ∙ order_is ∙ ap (λ (xs : List ℕ). xs ++ filter (is_lost other marks) waiting) none ∙ ap (λ (e : Edition). filter (is_lost e marks) waiting) same
