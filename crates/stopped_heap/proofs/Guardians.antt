-- What roots and ephemerons hold, and what guarded words hold beside them.
use Rattle.std.proofs.Common.{◌≡◌, ℕ, ◌+◌, ◌^◌, ◌<◌, ◌≤◌, ◌==◌, ◌⊎◌, Bool, true, false, not, cond, eqb, List, [], ◌∷◌, ◌++◌, inl, inr, All, Contains, filter, length, get_or, map, take, refl, sym, ap, subst, ◌∙◌, arith, length-append}
use Rattle.std.specs.List.{list_any, range_with_len}
use Rattle.std.proofs.lemmas.Bool.{both_ways, cases_Bool, eq-eqb, eqb-true, or_cases, or_left, or_right}
use Rattle.std.proofs.Math.ListN.{get_or-append}
use Rattle.std.proofs.lemmas.List.{get_or-append-add, get_or_default, take_at}
use Rattle.std.proofs.lemmas.List.Elements.{filter_passes, All-append, All-contains, All-filter, Contains-get_or}
use Rattle.std.proofs.lemmas.List.Filters.{length-filter_both}
use Rattle.std.proofs.lemmas.List.FromFn.{length-range_with_len, get_or-range_with_len}
use Rattle.heap_layout.specs.declared.edition.Edition.{Edition}
use Rattle.heap_layout.specs.Heap.{from_address, is_target, is_value, IsValue}
use Rattle.heap_layout.specs.Limits.{most_words, most_roots}
use Rattle.heap_layout.specs.Values.{is_immediate}
use Rattle.heap_layout.proofs.Bounds.{words_most}
use Rattle.heap_layout.proofs.Values.{no-immediate}
use Rattle.reachability.specs.Queue.{has}
use Rattle.reachability.proofs.Indices.{index-there}
use Rattle.reachability.proofs.Queues.{has-first, has-later}
use Rattle.reachability.proofs.Rising.{contains-had, has-contained}
use Rattle.stopped_heap.specs.Ephemerons.{IsHeld, held_mark, held_reference, AreHeld, IsHeldFaultOf}
use Rattle.rest_marks.specs.Growing.{roots_on, IsMoreFaultOf}
use Rattle.stopped_heap.specs.Guarded.{rooted, is_lost, numbered, AreHeldFrom, IsGuardedFaultOf, IsOnFaultOf}
use Rattle.rest_marks.specs.Meeting.{AllLead}
use Rattle.rest_marks.specs.Reached.{is_within, IsStray, LeadInto, IsReachedFrom, by_root, by_reference, AreReached, IsFaultOf}
use Rattle.rest_marks.specs.declared.fault.SurveyFault.{SurveyFault}
use Rattle.rest_marks.specs.declared.fault.SurveyFault.TheVariants.{TooLarge, BadRoot, BadReference, BadWeak, ObjectTooLong, ObjectPastEnd, Overlap, OutOfMemory}
use Rattle.rest_marks.proofs.Grown.{lead-cases, lead-left, lead-marked, lead-right, marked-lead}
use Rattle.stopped_heap.proofs.Held.{fault-through, held-through}
use Rattle.rest_marks.proofs.Reaching.{reached-inside}

-- ---- the objects to which roots lead

pub lead-rooted : (words roots : List ℕ) (i : ℕ) → LeadInto words roots i → Contains (rooted words roots) i
lead-rooted words roots i leads_there =
    index-there (λ j. has roots (from_address j)) (length words) i leads_there.inside (has-contained roots (from_address i) leads_there.address)

pub rooted-lead : (words roots : List ℕ) (i : ℕ) → Contains (rooted words roots) i → LeadInto words roots i
rooted-lead words roots i there =
    let test : ℕ → Bool = λ j. has roots (from_address j) in
    let row = range_with_len 0 (length words) in
    let low : All (λ j. j < length words) row = λ k d lt.
    let at = get_or-range_with_len 0 (length words) k d (omega (arith, lt, length-range_with_len 0 (length words))) in
    omega (arith, at, lt, length-range_with_len 0 (length words))
    in
    record {
      inside = All-contains (λ j. j < length words) (filter test row) i (All-filter test (λ j. j < length words) row low) there;
      address = contains-had roots (from_address i) (All-contains (λ j. test j ≡ true) (filter test row) i (filter_passes test row) there);
    }

-- what roots reach is held from them
pub reached-rooted : (edition : Edition) (words roots ephemerons : List ℕ) (i : ℕ) → IsReachedFrom edition words roots i → IsHeld edition words (rooted words roots) ephemerons (from_address i)
reached-rooted edition words roots ephemerons i (by_root _ leads_there) = held_mark (from_address i) i (lead-rooted words roots i leads_there) refl
reached-rooted edition words roots ephemerons j (by_reference i _ reached leads_there) =
    held_reference (from_address j) i j (reached-inside edition words roots i reached) (reached-rooted edition words roots ephemerons i reached) leads_there refl

-- what is held from the objects that roots reach is held from the roots
pub held-rooted : (edition : Edition) (words roots between ephemerons after : List ℕ) → AreReached edition words roots between → AreHeld edition words between ephemerons after
    → AreHeldFrom edition words roots ephemerons after
held-rooted edition words roots between ephemerons after reached held = record {
  rising = held.rising;
  inside = held.inside;
  held = λ i there.
      held-through edition words between (rooted words roots) ephemerons (λ j found. reached-rooted edition words roots ephemerons j (reached.reached j found)) (from_address i)
      (held.held i there);
  all = λ i inside is.
      held.all i inside
      (held-through edition words (rooted words roots) between ephemerons (λ j found.
      held_mark (from_address j) j (reached.all j (by_root j (rooted-lead words roots j found))) refl) (from_address i) is);
}

-- the objects to which roots lead are held
pub root-held : (edition : Edition) (words roots ephemerons marks : List ℕ) → AreHeldFrom edition words roots ephemerons marks → (i : ℕ) → LeadInto words roots i → Contains marks i
root-held edition words roots ephemerons marks held i leads_there = held.all i leads_there.inside (held_mark (from_address i) i (lead-rooted words roots i leads_there) refl)

-- so are those that were marked before
pub mark-held : (edition : Edition) (words marks more ephemerons after : List ℕ) → ((i : ℕ) → Contains marks i → i < length words)
    → AreHeldFrom edition words (roots_on marks more) ephemerons after → (i : ℕ) → Contains marks i → Contains after i
mark-held edition words marks more ephemerons after inside held i there =
    root-held edition words (roots_on marks more) ephemerons after held i (lead-left words (map from_address marks) more i (marked-lead words marks i (inside i there) there))

-- ---- words that lead to marked objects

target-at : (marks : List ℕ) (word : ℕ) → list_any (λ mark. from_address mark == word) marks ≡ true → (i : ℕ) × (has marks i ≡ true) × (from_address i ≡ word)
target-at [] word there = absurd (let no : false ≡ true = there in cc)
target-at (mark ∷ marks) word there = elim (or_cases (from_address mark == word) (list_any (λ m. from_address m == word) marks) there) [
  | inl here ↦ (mark, has-first mark marks, eqb-true (from_address mark) word here)
  | inr later ↦ (let at = target-at marks word later in (at.0, has-later mark at.0 marks at.1, at.2))
]

at-target : (marks : List ℕ) (i : ℕ) → has marks i ≡ true → list_any (λ mark. from_address mark == from_address i) marks ≡ true
at-target [] i there = absurd (let no : false ≡ true = there in cc)
at-target (mark ∷ marks) i there = elim (or_cases (eqb i mark) (has marks i) there) [
  | inl here ↦
      or_left (from_address mark == from_address i) (list_any (λ m. from_address m == from_address i) marks)
      (eq-eqb (from_address mark) (from_address i) (let same = eqb-true i mark here in omega (arith, same)))
  | inr later ↦ or_right (from_address mark == from_address i) (list_any (λ m. from_address m == from_address i) marks) (at-target marks i later)
]

-- with more marks a word still leads to one
pub value-more : (edition : Edition) (marks others : List ℕ) → ((i : ℕ) → Contains marks i → Contains others i) → (word : ℕ) → IsValue edition marks word → IsValue edition others word
value-more edition marks others more word value = elim (or_cases (is_immediate edition word) (is_target marks word) value) [
  | inl immediate ↦ or_left (is_immediate edition word) (is_target others word) immediate
  | inr target ↦ or_right (is_immediate edition word) (is_target others word) (elim (or_cases (word == 0) (list_any (λ mark. from_address mark == word) marks) target) [
    | inl null ↦ or_left (word == 0) (list_any (λ mark. from_address mark == word) others) null
    | inr some ↦
        let at = target-at marks word some in
        or_right (word == 0) (list_any (λ mark. from_address mark == word) others)
        (subst (λ (w : ℕ). list_any (λ mark. from_address mark == w) others ≡ true) at.2
        (at-target others at.0 (has-contained others at.0 (more at.0 (contains-had marks at.0 at.1)))))
  ])
]

-- an address that leads to a marked object is that of one
pub value-mark : (edition : Edition) (marks : List ℕ) (i : ℕ) → i < 2 ^ 31 → IsValue edition marks (from_address i) → Contains marks i
value-mark edition marks i small value = elim (or_cases (is_immediate edition (from_address i)) (is_target marks (from_address i)) value) [
  | inl immediate ↦ absurd (no-immediate edition (from_address i) (omega (arith, small)) immediate)
  | inr target ↦ elim (or_cases (from_address i == 0) (list_any (λ mark. from_address mark == from_address i) marks) target) [
    | inl null ↦ absurd (let zero_there = eqb-true (from_address i) 0 null in omega (arith, zero_there))
    | inr some ↦
        let at = target-at marks (from_address i) some in
        let same : at.0 ≡ i = (let is = at.2 in omega (arith, is)) in
        subst (Contains marks) same (contains-had marks at.0 at.1)
  ]
]

-- ---- a filter of words

pub had-filter : (p : ℕ → Bool) (xs : List ℕ) (x : ℕ) → has (filter p xs) x ≡ true → has xs x ≡ true
had-filter p [] x there = there
had-filter p (y ∷ ys) x there = elim (cases_Bool (p y)) [
  | inl passes ↦
      let kept : has (y ∷ filter p ys) x ≡ true = subst (λ (b : Bool). has (cond b (y ∷ filter p ys) (filter p ys)) x ≡ true) passes there in
      elim (or_cases (eqb x y) (has (filter p ys) x) kept) [
        | inl here ↦ or_left (eqb x y) (has ys x) here
        | inr later ↦ or_right (eqb x y) (has ys x) (had-filter p ys x later)
      ]
  | inr fails ↦ has-later y x ys (had-filter p ys x (subst (λ (b : Bool). has (cond b (y ∷ filter p ys) (filter p ys)) x ≡ true) fails there))
]

pub filter-had : (p : ℕ → Bool) (xs : List ℕ) (x : ℕ) → has xs x ≡ true → p x ≡ true → has (filter p xs) x ≡ true
filter-had p [] x there passes = there
filter-had p (y ∷ ys) x there passes = elim (or_cases (eqb x y) (has ys x) there) [
  | inl here ↦
      let same = eqb-true x y here in
      subst (λ (b : Bool). has (cond b (y ∷ filter p ys) (filter p ys)) x ≡ true) (sym (ap p (sym same) ∙ passes)) (or_left (eqb x y) (has (filter p ys) x) here)
  | inr later ↦ elim (cases_Bool (p y)) [
    | inl both ↦
        subst (λ (b : Bool). has (cond b (y ∷ filter p ys) (filter p ys)) x ≡ true) (sym both) (or_right (eqb x y) (has (filter p ys) x) (filter-had p ys x later passes))
    | inr fails ↦ subst (λ (b : Bool). has (cond b (y ∷ filter p ys) (filter p ys)) x ≡ true) (sym fails) (filter-had p ys x later passes)
  ]
]

-- ---- the roots, and what is lost beside them, hold what the roots and all guarded words hold

module _ (edition : Edition) (words roots ephemerons guarded kept : List ℕ) (few : length words ≤ most_words edition) (first : AreHeldFrom edition words roots ephemerons kept) where
  abbrev pub lost : List ℕ
  lost = filter (is_lost edition kept) guarded

  abbrev pub both : List ℕ
  both = rooted words (roots ++ guarded)

  -- what the roots hold is held
  kept-both : (i : ℕ) → Contains kept i → IsHeld edition words both ephemerons (from_address i)
  kept-both i there =
      held-through edition words (rooted words roots) both ephemerons
      (λ j found. held_mark (from_address j) j (lead-rooted words (roots ++ guarded) j (lead-left words roots guarded j (rooted-lead words roots j found))) refl) (from_address i) (first.held i there)

  -- and so is what is lost
  pub on-both : (i : ℕ) → LeadInto words (roots_on kept lost) i → IsHeld edition words both ephemerons (from_address i)
  on-both i leads_there = elim (lead-cases words (map from_address kept) lost i leads_there) [
    | inl old ↦ kept-both i (lead-marked words kept i old)
    | inr new ↦
        let there = contains-had guarded (from_address i) (had-filter (is_lost edition kept) guarded (from_address i) (has-contained lost (from_address i) new.address)) in
        held_mark (from_address i) i (lead-rooted words (roots ++ guarded) i (lead-right words roots guarded i (record { inside = new.inside; address = there }))) refl
  ]

  -- a guarded word leads to what is held already, or is lost
  both-on : (i : ℕ) → LeadInto words (roots ++ guarded) i → LeadInto words (roots_on kept lost) i
  both-on i leads_there = elim (lead-cases words roots guarded i leads_there) [
    | inl old ↦ lead-left words (map from_address kept) lost i (marked-lead words kept i old.inside (root-held edition words roots ephemerons kept first i old))
    | inr new ↦ elim (cases_Bool (is_value edition kept (from_address i))) [
      | inl value ↦
          lead-left words (map from_address kept) lost i
          (marked-lead words kept i new.inside (value-mark edition kept i (let inside = new.inside in omega (arith, inside, few, words_most edition)) value))
      | inr other ↦
          lead-right words (map from_address kept) lost i (record {
            inside = new.inside;
            address = contains-had lost (from_address i)
                (filter-had (is_lost edition kept) guarded (from_address i) (has-contained guarded (from_address i) new.address) (ap not other));
          })
    ]
  ]

  pub held-both : (marks : List ℕ) → AreHeldFrom edition words (roots_on kept lost) ephemerons marks → AreHeldFrom edition words (roots ++ guarded) ephemerons marks
  held-both marks all = record {
    rising = all.rising;
    inside = all.inside;
    held = λ i there.
        held-through edition words (rooted words (roots_on kept lost)) both ephemerons (λ j found. on-both j (rooted-lead words (roots_on kept lost) j found)) (from_address i) (all.held i there);
    all = λ i inside is.
        all.all i inside
        (held-through edition words both (rooted words (roots_on kept lost)) ephemerons
        (λ j found. held_mark (from_address j) j (lead-rooted words (roots_on kept lost) j (both-on j (rooted-lead words (roots ++ guarded) j found))) refl) (from_address i) is);
  }

  -- roots and guarded words lead to what is held
  pub leads-both : (marks : List ℕ) → AreHeldFrom edition words (roots_on kept lost) ephemerons marks → All (IsValue edition kept) roots → All (IsValue edition marks) lost
      → All (IsValue edition marks) (roots ++ guarded)
  leads-both marks all of_roots of_lost =
      let more = value-more edition kept marks (mark-held edition words kept lost ephemerons marks first.inside all) in
      All-append (IsValue edition marks) roots guarded (λ k d lt. more (get_or roots k d) (of_roots k d lt)) (λ k d lt.
      let word = get_or guarded k d in
      elim (cases_Bool (is_value edition kept word)) [
        | inl value ↦ more word value
        | inr other ↦
            All-contains (IsValue edition marks) lost word of_lost
            (contains-had lost word (filter-had (is_lost edition kept) guarded word (has-contained guarded word (Contains-get_or guarded k d lt)) (ap not other)))
      ])

-- the lost words are the first ones
pub lost-taken : (edition other : Edition) (marks guarded order sliced : List ℕ) (n : ℕ) → other ≡ edition → sliced ≡ order
    → order ≡ filter (is_lost other marks) guarded ++ filter (is_value other marks) guarded → n ≡ length (filter (is_lost other marks) guarded)
    → take n sliced ≡ filter (is_lost edition marks) guarded
lost-taken edition other marks guarded order sliced n same sliced_is order_is count =
    subst (λ (e : Edition). take n sliced ≡ filter (is_lost e marks) guarded) same
    (subst (λ (xs : List ℕ). take n xs ≡ filter (is_lost other marks) guarded) (sym (sliced_is ∙ order_is))
    (take_at (filter (is_lost other marks) guarded) (filter (is_value other marks) guarded) n (sym count)))

-- what holds of a survey holds of the words and the edition that it has
pub carried : (P : Edition → List ℕ → List ℕ → Type 0) (edition other : Edition) (words ws xs ys : List ℕ) → other ≡ edition → ws ≡ words → xs ≡ ys → P other ws xs → P edition words ys
carried P edition other words ws xs ys same same_words same_more holds =
    subst (λ (e : Edition). P e words ys) same (subst (λ (vs : List ℕ). P other vs ys) same_words (subst (λ (zs : List ℕ). P other ws zs) same_more holds))

-- the words keep their number
pub parted-long : (edition : Edition) (marks guarded : List ℕ) → length (filter (is_lost edition marks) guarded ++ filter (is_value edition marks) guarded) ≡ length guarded
parted-long edition marks guarded =
    length-append (filter (is_lost edition marks) guarded) (filter (is_value edition marks) guarded)
    ∙ (let long = length-filter_both (is_value edition marks) (is_lost edition marks) (λ _. refl) guarded in omega (arith, long))

-- ---- faults

-- a fault that more roots meet
pub fault-reached : (edition : Edition) (words marks more ephemerons : List ℕ) (from : ℕ) (fault : SurveyFault) → IsMoreFaultOf edition words marks more fault
    → IsOnFaultOf edition words marks more ephemerons from fault
fault-reached edition words marks more ephemerons from TooLarge is = is
fault-reached edition words marks more ephemerons from (BadRoot k) (_, is) = inl is
fault-reached edition words marks more ephemerons from (BadReference j) (_, is) = (is.0, reached-rooted edition words (roots_on marks more) ephemerons is.0 is.1, is.2, is.3, is.4, is.5)
fault-reached edition words marks more ephemerons from (BadWeak j) (_, is) = (is.0, reached-rooted edition words (roots_on marks more) ephemerons is.0 is.1, is.2, is.3, is.4, is.5)
fault-reached edition words marks more ephemerons from (ObjectTooLong i) (_, is) = (reached-rooted edition words (roots_on marks more) ephemerons i is.0, is.1)
fault-reached edition words marks more ephemerons from (ObjectPastEnd i) (_, is) = (reached-rooted edition words (roots_on marks more) ephemerons i is.0, is.1)
fault-reached edition words marks more ephemerons from (Overlap i) (_, is) = (
  reached-rooted edition words (roots_on marks more) ephemerons i is.0,
  is.1,
  reached-rooted edition words (roots_on marks more) ephemerons is.1 is.2,
  is.3,
  is.4,
  is.5,
  is.6,
)
fault-reached edition words marks more ephemerons from OutOfMemory is = tt

-- its number is one of the ephemerons' words, if it is a value
pub value-inside : (edition : Edition) (words marks ephemerons : List ℕ) (fault : SurveyFault) (k : ℕ) → IsHeldFaultOf edition words marks ephemerons fault → fault ≡ BadRoot k → k < length ephemerons
value-inside edition words marks ephemerons fault k is same =
    let at : IsHeldFaultOf edition words marks ephemerons (BadRoot k) = subst (IsHeldFaultOf edition words marks ephemerons) same is in
    at.0

fault-counted : (edition : Edition) (words marks more ephemerons : List ℕ) (from : ℕ) (fault : SurveyFault) → IsHeldFaultOf edition words (rooted words (roots_on marks more)) ephemerons fault
    → IsOnFaultOf edition words marks more ephemerons from (numbered from fault)
fault-counted edition words marks more ephemerons from TooLarge is = absurd is
fault-counted edition words marks more ephemerons from (BadRoot k) is = inr (k, refl, is.0, is.1)
fault-counted edition words marks more ephemerons from (BadReference j) is = is
fault-counted edition words marks more ephemerons from (BadWeak j) is = is
fault-counted edition words marks more ephemerons from (ObjectTooLong i) is = is
fault-counted edition words marks more ephemerons from (ObjectPastEnd i) is = is
fault-counted edition words marks more ephemerons from (Overlap i) is = is
fault-counted edition words marks more ephemerons from OutOfMemory is = tt

-- a fault that values meet
pub fault-valued : (edition : Edition) (words marks more between ephemerons : List ℕ) (from : ℕ) (fault : SurveyFault) → AreReached edition words (roots_on marks more) between
    → IsHeldFaultOf edition words between ephemerons fault → IsOnFaultOf edition words marks more ephemerons from (numbered from fault)
fault-valued edition words marks more between ephemerons from fault reached is =
    fault-counted edition words marks more ephemerons from fault
    (fault-through edition words between (rooted words (roots_on marks more)) ephemerons fault
    (λ i there. reached-rooted edition words (roots_on marks more) ephemerons i (reached.reached i there)) is)

-- no roots reach nothing
pub none-reached : (edition : Edition) (words : List ℕ) (i : ℕ) → IsReachedFrom edition words [] i → ⊥
none-reached edition words i (by_root _ leads_there) =
    absurd (let no : false ≡ true = has-contained [] (from_address i) leads_there.address in cc)
none-reached edition words j (by_reference i _ reached leads_there) = none-reached edition words i reached

-- one of the words that are counted
pub root-counted : (edition : Edition) (words roots rest : List ℕ) (k : ℕ) → k < length roots → IsStray edition words (get_or roots k 0)
    → (k < length (roots ++ rest)) × IsStray edition words (get_or (roots ++ rest) k 0)
root-counted edition words roots rest k lt stray =
    (omega (arith, lt, length-append roots rest), subst (IsStray edition words) (sym (get_or-append roots rest 0 k lt)) stray)

pub value-counted : (edition : Edition) (words roots ephemerons guarded : List ℕ) (k n : ℕ) → k ≡ length roots + n → n < length ephemerons → IsStray edition words (get_or ephemerons n 0)
    → (k < length (roots ++ (ephemerons ++ guarded))) × IsStray edition words (get_or (roots ++ (ephemerons ++ guarded)) k 0)
value-counted edition words roots ephemerons guarded k n same lt stray =
    let at = root-counted edition words ephemerons guarded n lt stray in (
      omega (arith, at.0, same, length-append roots (ephemerons ++ guarded)),
      subst (λ (j : ℕ). IsStray edition words (get_or (roots ++ (ephemerons ++ guarded)) j 0)) (sym same)
          (subst (IsStray edition words) (sym (get_or-append-add roots (ephemerons ++ guarded) n 0)) at.1),
    )

pub guarded-counted : (edition : Edition) (words roots ephemerons guarded : List ℕ) (k n : ℕ) → k ≡ length roots + length ephemerons + n → n < length guarded
    → IsStray edition words (get_or guarded n 0) → (k < length (roots ++ (ephemerons ++ guarded))) × IsStray edition words (get_or (roots ++ (ephemerons ++ guarded)) k 0)
guarded-counted edition words roots ephemerons guarded k n same lt stray =
    let m = length ephemerons + n in
    let at : k ≡ length roots + m = omega (arith, same) in (
      omega (arith, lt, same, length-append roots (ephemerons ++ guarded), length-append ephemerons guarded),
      subst (λ (j : ℕ). IsStray edition words (get_or (roots ++ (ephemerons ++ guarded)) j 0)) (sym at)
          (subst (IsStray edition words) (sym (get_or-append-add roots (ephemerons ++ guarded) m 0 ∙ get_or-append-add ephemerons guarded n 0)) stray),
    )

-- before anything is marked
pub fault-begun : (edition : Edition) (words roots ephemerons guarded : List ℕ) (fault : SurveyFault) → length words ≤ most_words edition → length roots ≤ most_roots edition
    → IsFaultOf edition words [] fault → IsGuardedFaultOf edition words roots ephemerons guarded fault
fault-begun edition words roots ephemerons guarded TooLarge few few_roots (inl many) = inl many
fault-begun edition words roots ephemerons guarded TooLarge few few_roots (inr many) = absurd (omega (arith, many))
fault-begun edition words roots ephemerons guarded (BadRoot k) few few_roots (_, is) = absurd (let lt : k < 0 = is.0 in omega (arith, lt))
fault-begun edition words roots ephemerons guarded (BadReference j) few few_roots (_, is) = absurd (none-reached edition words is.0 is.1)
fault-begun edition words roots ephemerons guarded (BadWeak j) few few_roots (_, is) = absurd (none-reached edition words is.0 is.1)
fault-begun edition words roots ephemerons guarded (ObjectTooLong i) few few_roots (_, is) = absurd (none-reached edition words i is.0)
fault-begun edition words roots ephemerons guarded (ObjectPastEnd i) few few_roots (_, is) = absurd (none-reached edition words i is.0)
fault-begun edition words roots ephemerons guarded (Overlap i) few few_roots (_, is) = absurd (none-reached edition words i is.0)
fault-begun edition words roots ephemerons guarded OutOfMemory few few_roots is = (few, few_roots)

-- and then: more roots hold only what the roots and the guarded words hold
module _ (edition : Edition) (words roots ephemerons guarded marks more : List ℕ) (few : length words ≤ most_words edition) (few_roots : length roots ≤ most_roots edition)
    (each : (i : ℕ) → LeadInto words (roots_on marks more) i → IsHeld edition words (rooted words (roots ++ guarded)) ephemerons (from_address i))
    (large : most_roots edition < length more → (most_roots edition < length roots) ⊎ (most_roots edition < length guarded))
    (bad : (k : ℕ) → k < length more → IsStray edition words (get_or more k 0)
    → (k < length (roots ++ (ephemerons ++ guarded))) × IsStray edition words (get_or (roots ++ (ephemerons ++ guarded)) k 0))
  where
    through : (fault : SurveyFault) → IsHeldFaultOf edition words (rooted words (roots_on marks more)) ephemerons fault
        → IsHeldFaultOf edition words (rooted words (roots ++ guarded)) ephemerons fault
    through fault =
        fault-through edition words (rooted words (roots_on marks more)) (rooted words (roots ++ guarded)) ephemerons fault (λ i there. each i (rooted-lead words (roots_on marks more) i there))

    pub fault-guarded : (fault : SurveyFault) → IsOnFaultOf edition words marks more ephemerons (length roots) fault → IsGuardedFaultOf edition words roots ephemerons guarded fault
    fault-guarded TooLarge is = inr (large is)
    fault-guarded (BadRoot k) (inl is) = (let at = bad k is.0 is.1 in ((few, few_roots), at.0, at.1))
    fault-guarded (BadRoot k) (inr is) = (let at = value-counted edition words roots ephemerons guarded k is.0 is.1 is.2 is.3 in ((few, few_roots), at.0, at.1))
    fault-guarded (BadReference j) is = ((few, few_roots), through (BadReference j) is)
    fault-guarded (BadWeak j) is = ((few, few_roots), through (BadWeak j) is)
    fault-guarded (ObjectTooLong i) is = ((few, few_roots), through (ObjectTooLong i) is)
    fault-guarded (ObjectPastEnd i) is = ((few, few_roots), through (ObjectPastEnd i) is)
    fault-guarded (Overlap i) is = ((few, few_roots), through (Overlap i) is)
    fault-guarded OutOfMemory is = (few, few_roots)

-- the fault of the first pass
pub fault-first : (edition : Edition) (words roots ephemerons guarded : List ℕ) (fault : SurveyFault) → length words ≤ most_words edition → length roots ≤ most_roots edition
    → IsOnFaultOf edition words [] roots ephemerons (length roots) fault → IsGuardedFaultOf edition words roots ephemerons guarded fault
fault-first edition words roots ephemerons guarded fault few few_roots =
    fault-guarded edition words roots ephemerons guarded [] roots few few_roots
    (λ i leads_there. held_mark (from_address i) i (lead-rooted words (roots ++ guarded) i (lead-left words roots guarded i leads_there)) refl) (λ many. inl many)
    (λ k lt stray. root-counted edition words roots (ephemerons ++ guarded) k lt stray) fault

-- and of the second one
pub fault-second : (edition : Edition) (words roots ephemerons guarded kept : List ℕ) (fault : SurveyFault) → length words ≤ most_words edition → length roots ≤ most_roots edition
    → AreHeldFrom edition words roots ephemerons kept → AllLead edition (length words) guarded
    → IsOnFaultOf edition words kept (filter (is_lost edition kept) guarded) ephemerons (length roots) fault → IsGuardedFaultOf edition words roots ephemerons guarded fault
fault-second edition words roots ephemerons guarded kept fault few few_roots first lead =
    let lost = filter (is_lost edition kept) guarded in
    let long = length-filter_both (is_value edition kept) (is_lost edition kept) (λ _. refl) guarded in
    let within : All (λ word. is_within edition (length words) word ≡ true) guarded = λ k d lt.
    subst (λ (w : ℕ). is_within edition (length words) w ≡ true) (get_or_default guarded k 0 d lt) (lead k lt)
    in
    let of_lost = All-filter (is_lost edition kept) (λ word. is_within edition (length words) word ≡ true) guarded within in
    fault-guarded edition words roots ephemerons guarded kept lost few few_roots (on-both edition words roots ephemerons guarded kept few first)
    (λ many. inr (omega (arith, many, long))) (λ k lt stray. absurd (both_ways (is_within edition (length words) (get_or lost k 0)) stray (of_lost k 0 lt))) fault
