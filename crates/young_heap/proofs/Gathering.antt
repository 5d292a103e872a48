-- The words of old objects that are asked for, as far as they were gathered.
use Rattle.std.proofs.Common.{◌≡◌, ℕ, zero, suc, Result, Ok, Err, OnErr, ◌+◌, ◌-◌, ◌<◌, ◌≤◌, ◌⊎◌, ◌==◌, ◌&&◌, Bool, not, true, false, cond, leb, ltb, eqb, List, [], ◌∷◌, ◌++◌, All, length, get_or, inl, inr, sym, ap, subst, ◌∙◌, arith, length-append}
use Rattle.std.specs.List.Sorted.{IsStrictlyIncreasing}
use Rattle.std.proofs.lemmas.Bool.{both_ways, not-true, cases_Bool, cases_lt, cases_order, and_parts, and_from, or_cases, or_left, or_right, le-leb, lt-ltb, leb-true, ltb-true, eqb-true}
use Rattle.std.proofs.lemmas.List.{get_or_append_left, get_or-append_right}
use Rattle.std.proofs.lemmas.List.Elements.{All-push, All-nil}
use Rattle.std.proofs.lemmas.List.Folds.{list_any-append}
use Rattle.heap_layout.specs.declared.edition.Edition.{Edition}
use Rattle.heap_layout.specs.Bits.{bit}
use Rattle.heap_layout.specs.Header.{Head, refs_of, weak_of, size_of}
use Rattle.heap_layout.specs.Heap.{header_at}
use Rattle.reachability.specs.Queue.{has}
use Rattle.reachability.proofs.Queues.{has-first}
use Rattle.young_heap.specs.Cards.{with_word, AreFound, AreGathered, AreGatheredOf, AreGatheredWeak, AreUnasked, IsOwner}
use Rattle.young_heap.specs.Young.{is_below_led, AreFieldsBelow, AreOld, AreRemembered}
use Rattle.young_heap.specs.declared.remembering.Owner.{Owner}

-- a list with one more at its end
has-more : (xs : List ℕ) (x i : ℕ) → has xs i ≡ true → has (xs ++ x ∷ []) i ≡ true
has-more xs x i there = list_any-append (λ j. i == j) xs (x ∷ []) ∙ or_left _ _ there

has-new : (xs : List ℕ) (x : ℕ) → has (xs ++ x ∷ []) x ≡ true
has-new xs x = list_any-append (λ j. x == j) xs (x ∷ []) ∙ or_right (has xs x) _ (has-first x [])

has-cases : (xs : List ℕ) (x i : ℕ) → has (xs ++ x ∷ []) i ≡ true → (has xs i ≡ true) ⊎ (i ≡ x)
has-cases xs x i there =
    elim (or_cases (has xs i) (has (x ∷ []) i) (sym (list_any-append (λ j. i == j) xs (x ∷ [])) ∙ there)) [
      | inl before ↦ inl before
      | inr new ↦ elim (or_cases (eqb i x) false new) [ inl same ↦ inr (eqb-true i x same) | inr none ↦ absurd (let no : false ≡ true = none in cc) ]
    ]

rising-push : (xs : List ℕ) (x : ℕ) → IsStrictlyIncreasing xs → All (λ j. j < x) xs → IsStrictlyIncreasing (xs ++ x ∷ [])
rising-push xs x rising below k within =
    let long = length-append xs (x ∷ []) in
    elim (cases_lt (k + 1) (length xs)) [
      | inl lt ↦
          let here = get_or_append_left xs (x ∷ []) 0 k (omega (arith, lt)) in
          let next = get_or_append_left xs (x ∷ []) 0 (k + 1) lt in
          omega (arith, here, next, rising k lt)
      | inr past ↦
          let last : k + 1 ≡ length xs = omega (arith, within, long, past) in
          let here = get_or_append_left xs (x ∷ []) 0 k (omega (arith, last)) in
          let none : k + 1 - (k + 1) ≡ 0 = omega arith in
          let next : get_or (xs ++ x ∷ []) (k + 1) 0 ≡ x =
          get_or-append_right xs (x ∷ []) (k + 1) (k + 1) 0 (sym last) (omega arith) ∙ ap (λ (n : ℕ). get_or (x ∷ []) n 0) none in
          omega (arith, here, next, below k 0 (omega (arith, last)))
    ]

-- numbers that rise are at least as large as their place
rising-least : (xs : List ℕ) → IsStrictlyIncreasing xs → (k : ℕ) → k < length xs → k ≤ get_or xs k 0
rising-least xs rising zero lt = omega arith
rising-least xs rising (suc k) lt =
    let before = rising-least xs rising k (omega (arith, lt)) in
    let step = rising k (omega (arith, lt)) in
    let same : suc k ≡ k + 1 = omega arith in
    subst (λ (n : ℕ). n ≤ get_or xs n 0) (sym same) (omega (arith, before, step))

-- so there are at most as many as the bound below which they are
pub rising-few : (xs : List ℕ) (bound : ℕ) → IsStrictlyIncreasing xs → All (λ j. j < bound) xs → length xs ≤ bound
rising-few xs bound rising below = elim (cases_lt bound (length xs)) [
  | inr few ↦ few
  | inl many ↦ absurd (let least = rising-least xs rising bound many in let less = below bound 0 many in omega (arith, least, less))
]

-- what is so is so of an Err
pub on_err : {T E P : Type 0} (result : Result T E) → P → OnErr result P
on_err (Ok _) is = tt
on_err (Err _) is = is

module _ (edition : Edition) (words starts : List ℕ) (old : ℕ) where
  -- what a header says of an old object
  pub owner-from : (owner : Owner) (start : ℕ) → owner.start ≡ start → owner.last_ref ≡ start + refs_of (header_at edition words start)
      → owner.last_weak ≡ owner.last_ref + weak_of (header_at edition words start) → owner.end ≡ start + size_of (header_at edition words start)
      → start < old → bit starts start ≡ true → IsOwner edition words starts old owner start
  owner-from owner start same refs weak ends low set = record {
    start = ap (bit starts) same ∙ set;
    low = omega (arith, same, low);
    from = omega (arith, same);
    to = omega (arith, ends);
    last_ref = refs ∙ ap (λ (n : ℕ). n + refs_of (header_at edition words n)) (sym same);
    last_weak = weak ∙ ap (λ (n : ℕ). owner.last_ref + weak_of (header_at edition words n)) (sym same);
    ends = ends ∙ ap (λ (n : ℕ). n + size_of (header_at edition words n)) (sym same);
  }

  module _ (old_are : AreOld edition words starts old) where
    -- the object that has a word is the owner
    pub owner-is : (owner : Owner) (j i : ℕ) → IsOwner edition words starts old owner j → j < owner.end → i < old → bit starts i ≡ true → i ≤ j
        → j < i + size_of (header_at edition words i) → i ≡ owner.start
    owner-is owner j i is inside low set from to = elim (cases_order i owner.start) [
      | inl same ↦ same
      | inr (inl less) ↦ absurd (let apart = old_are.apart i owner.start set is.start less is.low in omega (arith, apart, is.from, to))
      | inr (inr more) ↦ absurd (let apart = old_are.apart owner.start i is.start set more low in omega (arith, apart, inside, is.ends, from))
    ]

    -- an object starts where another one ends
    pub start-behind : (i : ℕ) → i < old → bit starts i ≡ true → i + size_of (header_at edition words i) < old → bit starts (i + size_of (header_at edition words i)) ≡ true
    start-behind i low set inside =
        let end = i + size_of (header_at edition words i) in
        let at = old_are.row end inside in
        let s = at.0 in
        elim (cases_order s i) [
          | inl same ↦ absurd (let sized = ap (λ (n : ℕ). size_of (header_at edition words n)) same in omega (arith, at.2.1, same, sized))
          | inr (inl less) ↦ absurd (let apart = old_are.apart s i at.1 set less low in omega (arith, apart, at.2.1))
          | inr (inr more) ↦
              let apart = old_are.apart i s set at.1 more (omega (arith, at.2.0, inside)) in
              let same : s ≡ end = omega (arith, apart, at.2.0) in
              sym (ap (bit starts) same) ∙ at.1
        ]

    -- the last object that starts at or before a word goes on behind it
    pub last-inside : (owner : Owner) (word : ℕ) → IsOwner edition words starts old owner owner.start → owner.start ≤ word → word < old
        → ((j : ℕ) → owner.start < j → j ≤ word → bit starts j ≡ false) → word < owner.end
    last-inside owner word is from inside none =
        let at = old_are.row word inside in
        let s = at.0 in
        elim (cases_order s owner.start) [
          | inl same ↦ (let sized = ap (λ (n : ℕ). size_of (header_at edition words n)) same in omega (arith, at.2.1, same, sized, is.ends))
          | inr (inl less) ↦ absurd (let apart = old_are.apart s owner.start at.1 is.start less is.low in omega (arith, apart, at.2.1, from))
          | inr (inr more) ↦ absurd (both_ways (bit starts s) (none s more at.2.0) at.1)
        ]

    -- so it is the word's owner
    pub last-owner : (owner : Owner) (word : ℕ) → IsOwner edition words starts old owner owner.start → owner.start ≤ word → word < old
        → ((j : ℕ) → owner.start < j → j ≤ word → bit starts j ≡ false) → IsOwner edition words starts old owner word
    last-owner owner word is from inside none =
        let ends = last-inside owner word is from inside none in
        record { start = is.start; low = is.low; from = from; to = omega (arith, ends); last_ref = is.last_ref; last_weak = is.last_weak; ends = is.ends }

module _ (edition : Edition) (words starts : List ℕ) (old : ℕ) (asked : ℕ → Bool) where
  -- nothing is found before the first word
  pub found-none : AreFound edition words starts old asked 0 []
  found-none = record {
    below = All-nil (λ j. j < 0);
    rising = λ k within. absurd (omega (arith, within));
    among = λ j there. absurd (let no : false ≡ true = there in cc);
    above = λ j there. absurd (let no : false ≡ true = there in cc);
  }

  -- nor where nothing is asked for
  pub found-skip : (first end : ℕ) (fields : List ℕ) → AreFound edition words starts old asked first fields → first ≤ end
      → AreFound edition words starts old asked end fields
  found-skip first end fields are le = record {
    below = λ k d lt. (let low = are.below k d lt in omega (arith, low, le));
    rising = are.rising;
    among = are.among;
    above = are.above;
  }

  -- one word more
  pub found-next : (a b j : ℕ) (fields : List ℕ) → AreFound edition words starts old asked j fields
      → asked j ≡ true → AreFound edition words starts old asked (j + 1) (with_word edition words starts old a b fields j)
  found-next a b j fields are is_asked =
      let led = is_below_led edition starts old (get_or words j 0) in
      let test = ltb a j && (leb j b && not led) in
      elim (cases_Bool test) [
        | inl holds ↦
            let parts = and_parts (ltb a j) (leb j b && not led) holds in
            let others = and_parts (leb j b) (not led) parts.1 in
            let now : with_word edition words starts old a b fields j ≡ fields ++ j ∷ [] =
            ap (λ (b : Bool). cond b (fields ++ j ∷ []) fields) holds in
            let result : AreFound edition words starts old asked (j + 1) (fields ++ j ∷ []) = record {
              below = All-push (λ n. n < j + 1) fields j (λ k d lt. (let low = are.below k d lt in omega (arith, low))) (omega arith);
              rising = rising-push fields j are.rising are.below;
              among = λ n there. elim (has-cases fields j n there) [
                | inl before ↦ are.among n before
                | inr same ↦ ap asked same ∙ is_asked
              ];
              above = λ n there. elim (has-cases fields j n there) [
                | inl before ↦ are.above n before
                | inr same ↦ ap (λ (k : ℕ). is_below_led edition starts old (get_or words k 0)) same ∙ not-true led others.1
              ];
            } in
            subst (AreFound edition words starts old asked (j + 1)) (sym now) result
        | inr fails ↦
            let now : with_word edition words starts old a b fields j ≡ fields =
            ap (λ (b : Bool). cond b (fields ++ j ∷ []) fields) fails in
            subst (AreFound edition words starts old asked (j + 1)) (sym now) (found-skip j (j + 1) fields are (omega arith))
      ]

  module _ (first last : Head → ℕ) where
    -- nothing is gathered before the first word
    pub gathered-none : AreGatheredOf first last edition words starts old asked 0 []
    gathered-none = record {
      below = All-nil (λ j. j < 0);
      rising = λ k within. absurd (omega (arith, within));
      fields_are = λ j there. absurd (let no : false ≡ true = there in cc);
      among = λ j there. absurd (let no : false ≡ true = there in cc);
      above = λ j there. absurd (let no : false ≡ true = there in cc);
      all = λ i f low set from to lt. absurd (omega (arith, lt));
    }

    -- nor where nothing is asked for
    pub gathered-skip : (start end : ℕ) (fields : List ℕ) → AreGatheredOf first last edition words starts old asked start fields → start ≤ end
        → ((j : ℕ) → start ≤ j → j < end → asked j ≡ false) → AreGatheredOf first last edition words starts old asked end fields
    gathered-skip start end fields are le none = record {
      below = λ k d lt. (let low = are.below k d lt in omega (arith, low, le));
      rising = are.rising;
      fields_are = are.fields_are;
      among = are.among;
      above = are.above;
      all = λ i f low set from to lt is_asked above. elim (cases_lt (i + f) start) [
        | inl before ↦ are.all i f low set from to before is_asked above
        | inr here ↦ absurd (both_ways (asked (i + f)) (none (i + f) here lt) is_asked)
      ];
    }

    -- one word more
    pub gathered-next : AreOld edition words starts old → ((h : Head) → last h < size_of h) → (owner : Owner) (a b j : ℕ) (fields : List ℕ)
        → a ≡ owner.start + first (header_at edition words owner.start) → b ≡ owner.start + last (header_at edition words owner.start)
        → AreGatheredOf first last edition words starts old asked j fields → IsOwner edition words starts old owner j → j < owner.end → asked j ≡ true
        → AreGatheredOf first last edition words starts old asked (j + 1) (with_word edition words starts old a b fields j)
    gathered-next old_are fits owner a b j fields at_first at_last are is inside is_asked =
        let led = is_below_led edition starts old (get_or words j 0) in
        let test = ltb a j && (leb j b && not led) in
        elim (cases_Bool test) [
          | inl holds ↦
              let parts = and_parts (ltb a j) (leb j b && not led) holds in
              let others = and_parts (leb j b) (not led) parts.1 in
              let now : with_word edition words starts old a b fields j ≡ fields ++ j ∷ [] = ap (λ (b : Bool). cond b (fields ++ j ∷ []) fields) holds in
              let result : AreGatheredOf first last edition words starts old asked (j + 1) (fields ++ j ∷ []) = record {
                below = All-push (λ n. n < j + 1) fields j (λ k d lt. (let low = are.below k d lt in omega (arith, low))) (omega arith);
                rising = rising-push fields j are.rising are.below;
                fields_are = λ n there. elim (has-cases fields j n there) [
                  | inl before ↦ are.fields_are n before
                  | inr same ↦
                      let above = ltb-true a j parts.0 in
                      let few = leb-true j b others.0 in
                      (owner.start, is.low, is.start, omega (arith, above, same, at_first), omega (arith, few, same, at_last))
                ];
                among = λ n there. elim (has-cases fields j n there) [
                  | inl before ↦ are.among n before
                  | inr same ↦ ap asked same ∙ is_asked
                ];
                above = λ n there. elim (has-cases fields j n there) [
                  | inl before ↦ are.above n before
                  | inr same ↦ ap (λ (k : ℕ). is_below_led edition starts old (get_or words k 0)) same ∙ not-true led others.1
                ];
                all = λ i f low set from to lt is_asked above. elim (cases_lt (i + f) j) [
                  | inl before ↦ has-more fields j (i + f) (are.all i f low set from to before is_asked above)
                  | inr here ↦
                      let same : j ≡ i + f = omega (arith, lt, here) in
                      subst (λ (n : ℕ). has (fields ++ j ∷ []) n ≡ true) same (has-new fields j)
                ];
              } in
              subst (AreGatheredOf first last edition words starts old asked (j + 1)) (sym now) result
          | inr fails ↦
              let now : with_word edition words starts old a b fields j ≡ fields = ap (λ (b : Bool). cond b (fields ++ j ∷ []) fields) fails in
              let result : AreGatheredOf first last edition words starts old asked (j + 1) fields = record {
                below = λ k d lt. (let low = are.below k d lt in omega (arith, low));
                rising = are.rising;
                fields_are = are.fields_are;
                among = are.among;
                above = are.above;
                all = λ i f low set from to lt is_asked above. elim (cases_lt (i + f) j) [
                  | inl before ↦ are.all i f low set from to before is_asked above
                  | inr here ↦ absurd (
                      let same : i + f ≡ j = omega (arith, lt, here) in
                      let short = fits (header_at edition words i) in
                      let own = owner-is edition words starts old old_are owner j i is inside low set (omega (arith, same)) (omega (arith, same, to, short)) in
                      let firsts = ap (λ (n : ℕ). first (header_at edition words n)) own in
                      let lasts = ap (λ (n : ℕ). last (header_at edition words n)) own in
                      let unled : led ≡ false = sym (ap (λ (n : ℕ). is_below_led edition starts old (get_or words n 0)) same) ∙ above in
                      both_ways test fails
                      (and_from (ltb a j) (leb j b && not led) (lt-ltb a j (omega (arith, own, same, from, firsts, at_first)))
                      (and_from (leb j b) (not led) (le-leb j b (omega (arith, own, same, to, lasts, at_last))) (ap not unled))))
                ];
              } in
              subst (AreGatheredOf first last edition words starts old asked (j + 1)) (sym now) result
        ]

-- fields that were found are words below, rising
pub found-below : (edition : Edition) (words starts : List ℕ) (old : ℕ) (asked : ℕ → Bool) (fields : List ℕ) → AreFound edition words starts old asked old fields
    → AreFieldsBelow old fields
found-below edition words starts old asked fields are = record { below = are.below; rising = are.rising }

-- a word that was found is asked for, and does not lead below
pub found-not : (edition : Edition) (words starts : List ℕ) (old : ℕ) (asked : ℕ → Bool) (fields : List ℕ) → AreFound edition words starts old asked old fields
    → (j : ℕ) → (asked j ≡ false) ⊎ (is_below_led edition starts old (get_or words j 0) ≡ true) → has fields j ≡ false
found-not edition words starts old asked fields are j out = elim (cases_Bool (has fields j)) [
  | inr none ↦ none
  | inl there ↦ absurd (elim out [
    | inl unasked ↦ both_ways (asked j) unasked (are.among j there)
    | inr led ↦ both_ways (is_below_led edition starts old (get_or words j 0)) (are.above j there) led
  ])
]

-- what is gathered is all that has to be remembered, if what is not asked for leads below
pub gathered-remembered : (edition : Edition) (words starts : List ℕ) (old : ℕ) (asked : ℕ → Bool) (fields weaks : List ℕ) → AreUnasked edition words starts old asked
    → AreGathered edition words starts old asked old fields → AreGatheredWeak edition words starts old asked old weaks → AreOld edition words starts old
    → AreRemembered edition words starts old fields weaks
gathered-remembered edition words starts old asked fields weaks clean are weak_are old_are = record {
  clean = λ i f low set from to none. elim (cases_Bool (asked (i + f))) [
    | inr unasked ↦ clean.clean i f low set from to unasked
    | inl is_asked ↦ elim (cases_Bool (is_below_led edition starts old (get_or words (i + f) 0))) [
      | inl led ↦ led
      | inr above ↦ absurd (
          let inside = old_are.inside i low set in
          both_ways (has fields (i + f)) none (are.all i f low set (omega (arith, from)) to (omega (arith, inside, to)) is_asked above))
    ]
  ];
  weak = λ i f low set from to none. elim (cases_Bool (asked (i + f))) [
    | inr unasked ↦ clean.weak i f low set from to unasked
    | inl is_asked ↦ elim (cases_Bool (is_below_led edition starts old (get_or words (i + f) 0))) [
      | inl led ↦ led
      | inr above ↦ absurd (
          let inside = old_are.inside i low set in
          both_ways (has weaks (i + f)) none (weak_are.all i f low set from to (omega (arith, inside, to)) is_asked above))
    ]
  ];
  fields_are = λ j there. (let at = are.fields_are j there in (at.0, at.1, at.2, omega (arith, at.3), at.4));
  weaks_are = λ j there. (let at = weak_are.fields_are j there in (at.0, at.1, at.2, at.3, omega (arith, at.4)));
}
