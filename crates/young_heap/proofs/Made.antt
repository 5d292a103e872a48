-- Cards that are made anew.
use Rattle.std.proofs.Common.{◌≡◌, ℕ, ◌+◌, ◌-◌, ◌/◌, ◌^◌, ◌<◌, ◌≤◌, ◌==◌, ◌||◌, ◌&&◌, ◌⊎◌, not, true, false, leb, ltb, List, [], get_or, set, inl, inr, refl, sym, ap, ◌∙◌, arith}
use Rattle.std.proofs.lemmas.Bool.{both_ways, cases_Bool, cases_lt, ne_eqb, or_cases, or_left, or_right, and_parts, and_from, ltb-true, lt-ltb}
use Rattle.heap_layout.specs.declared.edition.Edition.{Edition}
use Rattle.heap_layout.specs.Bits.{bit}
use Rattle.heap_layout.specs.Header.{header_of, refs_of, weak_of, size_of}
use Rattle.heap_layout.specs.Heap.{header_at}
use Rattle.heap_layout.specs.Values.{is_immediate}
use Rattle.reachability.specs.Queue.{has, is_address}
use Rattle.young_heap.specs.Cards.{is_dirty, AreCleanCards, AreGathered, AreGatheredWeak}
use Rattle.young_heap.specs.Dirty.{AreMade, AreMarked, IsAsked, IsWordFrom, LeadsAbove}
use Rattle.young_heap.specs.Young.{is_below_led, AreKeptBelow, AreOld}

-- ---- marks

-- no card is marked for none
pub marked-none : (cards : List ℕ) (P : ℕ → Type 0) → ((j : ℕ) → P j → ⊥) → AreMarked cards cards P
marked-none cards P none = record {
  stay = λ k set. set;
  dirty = λ j is. absurd (none j is);
  only = λ k set. inl set;
}

-- those for one after those for another
pub marked-both : (first second third : List ℕ) (P Q R : ℕ → Type 0) → AreMarked first second P → AreMarked second third Q
    → ((j : ℕ) → R j → P j ⊎ Q j) → ((j : ℕ) → P j → R j) → ((j : ℕ) → Q j → R j) → AreMarked first third R
marked-both first second third P Q R one two split left right = record {
  stay = λ k set. two.stay k (one.stay k set);
  dirty = λ j is. elim (split j is) [
    | inl p ↦ two.stay (j / 64) (one.dirty j p)
    | inr q ↦ two.dirty j q
  ];
  only = λ k set. elim (two.only k set) [
    | inr at ↦ inr (at.0, right at.0 at.1, at.2)
    | inl before ↦ elim (one.only k before) [
      | inl first_set ↦ inl first_set
      | inr at ↦ inr (at.0, left at.0 at.1, at.2)
    ]
  ];
}

-- those for the same words
pub marked-as : (before after : List ℕ) (P Q : ℕ → Type 0) → AreMarked before after P → ((j : ℕ) → Q j → P j) → ((j : ℕ) → P j → Q j)
    → AreMarked before after Q
marked-as before after P Q are back on = record {
  stay = are.stay;
  dirty = λ j is. are.dirty j (back j is);
  only = λ k set. elim (are.only k set) [
    | inl first_set ↦ inl first_set
    | inr at ↦ inr (at.0, on at.0 at.1, at.2)
  ];
}

-- the same of cards that are empty at first
pub marked-from : (zeros after : List ℕ) (P Q : ℕ → Type 0) → ((k : ℕ) → get_or zeros k 0 ≡ 0) → AreMarked zeros after P
    → ((j : ℕ) → Q j → P j) → ((j : ℕ) → P j → Q j) → AreMarked [] after Q
marked-from zeros after P Q none are back on = record {
  stay = λ k set. absurd (set refl);
  dirty = λ j is. are.dirty j (back j is);
  only = λ k set. elim (are.only k set) [
    | inl before ↦ absurd (before (none k))
    | inr at ↦ inr (at.0, on at.0 at.1, at.2)
  ];
}

-- ---- what is dirty then

-- what leads below leads below a higher watermark
pub led-more : (edition : Edition) (starts next : List ℕ) (old middle word : ℕ) → AreKeptBelow old starts next → old ≤ middle
    → is_below_led edition starts old word ≡ true → is_below_led edition next middle word ≡ true
led-more edition starts next old middle word kept up led =
    elim (or_cases (is_immediate edition word) ((word == 0) || is_address (λ i. ltb i old && bit starts i) word) led) [
      | inl immediate ↦ or_left (is_immediate edition word) ((word == 0) || is_address (λ i. ltb i middle && bit next i) word) immediate
      | inr other ↦ or_right (is_immediate edition word) ((word == 0) || is_address (λ i. ltb i middle && bit next i) word)
          (elim (or_cases (word == 0) (is_address (λ i. ltb i old && bit starts i) word) other) [
            | inl null ↦ or_left (word == 0) (is_address (λ i. ltb i middle && bit next i) word) null
            | inr address ↦
                let i = word - 2 ^ 32 in
                let parts = and_parts (leb (2 ^ 32) word) (ltb i old && bit starts i) address in
                let at = and_parts (ltb i old) (bit starts i) parts.1 in
                let low = ltb-true i old at.0 in
                or_right (word == 0) (is_address (λ j. ltb j middle && bit next j) word)
                (and_from (leb (2 ^ 32) word) (ltb i middle && bit next i) parts.0
                (and_from (ltb i middle) (bit next i) (lt-ltb i middle (omega (arith, low, up))) (kept i low ∙ at.1)))
          ])
    ]

-- what leads above is on a dirty card, so what is on a clean one leads below
pub made-clean : (edition : Edition) (words starts : List ℕ) (old : ℕ) (cards : List ℕ) → AreMade edition words starts old cards
    → AreCleanCards edition words starts old cards
made-clean edition words starts old cards made =
    let below : (i f : ℕ) → i < old → bit starts i ≡ true → 1 ≤ f → f ≤ refs_of (header_at edition words i) + weak_of (header_at edition words i)
    → is_dirty cards (i + f) ≡ false → is_below_led edition starts old (get_or words (i + f) 0) ≡ true = λ i f low set from to clean.
    elim (cases_Bool (is_below_led edition starts old (get_or words (i + f) 0))) [
      | inl led ↦ led
      | inr above ↦ absurd (both_ways (is_dirty cards (i + f)) clean
          (made.dirty (i + f) (i, omega arith, low, set, omega (arith, from), omega (arith, to)) above))
    ] in
    record {
      clean = λ i f low set from to clean. below i f low set from (omega (arith, to)) clean;
      weak = λ i f low set from to clean. below i f low set (omega (arith, from)) to clean;
    }

module _ (edition : Edition) (words after starts next : List ℕ) (old middle : ℕ) (cards made fields weaks : List ℕ)
    (old_are : AreOld edition words starts old) (clean : AreCleanCards edition words starts old cards)
    (gathered : AreGathered edition words starts old (is_dirty cards) old fields)
    (gathered_weak : AreGatheredWeak edition words starts old (is_dirty cards) old weaks)
    (next_are : AreOld edition after next middle) (kept : AreKeptBelow old starts next) (up : old ≤ middle)
    (others : (j : ℕ) → j < old → has fields j ≡ false → has weaks j ≡ false → get_or after j 0 ≡ get_or words j 0) where
  -- a start is none of the words that are remembered
  no-field : (i : ℕ) → i < old → bit starts i ≡ true → has fields i ≡ false
  no-field i low set = elim (cases_Bool (has fields i)) [
    | inr none ↦ none
    | inl there ↦ absurd (
        let at = gathered.fields_are i there in
        let apart = old_are.apart at.0 i at.2 set (omega (arith, at.3)) low in
        omega (arith, apart, at.4))
  ]

  no-weak : (i : ℕ) → i < old → bit starts i ≡ true → has weaks i ≡ false
  no-weak i low set = elim (cases_Bool (has weaks i)) [
    | inr none ↦ none
    | inl there ↦ absurd (
        let at = gathered_weak.fields_are i there in
        let apart = old_are.apart at.0 i at.2 set (omega (arith, at.3)) low in
        omega (arith, apart, at.4))
  ]

  -- so headers stay
  header-stays : (i : ℕ) → i < old → bit starts i ≡ true → header_at edition after i ≡ header_at edition words i
  header-stays i low set = ap (header_of edition) (others i low (no-field i low set) (no-weak i low set))

  -- a word that was not remembered led below
  led-before : (i f : ℕ) → i < old → bit starts i ≡ true → 1 ≤ f → f ≤ refs_of (header_at edition words i) + weak_of (header_at edition words i)
      → has fields (i + f) ≡ false → has weaks (i + f) ≡ false → is_below_led edition starts old (get_or words (i + f) 0) ≡ true
  led-before i f low set from to no_field no_weak =
      let inside = old_are.inside i low set in
      let lt : i + f < old = omega (arith, inside, to) in
      elim (cases_Bool (is_below_led edition starts old (get_or words (i + f) 0))) [
        | inl led ↦ led
        | inr above ↦ absurd (elim (cases_lt (refs_of (header_at edition words i)) f) [
          | inr ref ↦ elim (cases_Bool (is_dirty cards (i + f))) [
            | inr not_dirty ↦ both_ways (is_below_led edition starts old (get_or words (i + f) 0)) above (clean.clean i f low set from ref not_dirty)
            | inl dirty ↦ both_ways (has fields (i + f)) no_field (gathered.all i f low set from ref lt dirty above)
          ]
          | inl weak ↦ elim (cases_Bool (is_dirty cards (i + f))) [
            | inr not_dirty ↦ both_ways (is_below_led edition starts old (get_or words (i + f) 0)) above (clean.weak i f low set weak to not_dirty)
            | inl dirty ↦ both_ways (has weaks (i + f)) no_weak (gathered_weak.all i f low set weak to lt dirty above)
          ]
        ])
      ]

  -- a word of an old object that does not lead below is asked for
  asked : (j : ℕ) → IsWordFrom edition after next 0 middle j → LeadsAbove edition after next middle j → IsAsked edition after next old middle fields weaks j
  asked j at above =
      let i = at.0 in
      let inside = next_are.inside i at.2 at.3 in
      elim (cases_lt i old) [
        | inr high ↦ (inr (inr ((i, high, at.2, at.3, at.4, at.5), omega (arith, inside, at.5))), above)
        | inl low ↦
            let set = sym (kept i low) ∙ at.3 in
            let same = header-stays i low set in
            let refs = ap refs_of same in
            let weak = ap weak_of same in
            let f = j - i in
            let here : i + f ≡ j = omega (arith, at.4) in
            elim (cases_Bool (has fields j)) [
              | inl field ↦ (inl field, above)
              | inr no_field ↦ elim (cases_Bool (has weaks j)) [
                | inl weak_field ↦ (inr (inl weak_field), above)
                | inr no_weak_field ↦ absurd (
                    let led = led-before i f low set (omega (arith, at.4)) (omega (arith, at.5, refs, weak, here))
                    (ap (has fields) here ∙ no_field) (ap (has weaks) here ∙ no_weak_field) in
                    let was = old_are.inside i low set in
                    let sized = ap size_of same in
                    let stays = others j (omega (arith, was, at.5, sized)) no_field no_weak_field in
                    let led_here : is_below_led edition starts old (get_or after j 0) ≡ true =
                    ap (is_below_led edition starts old) stays ∙ sym (ap (λ (n : ℕ). is_below_led edition starts old (get_or words n 0)) here) ∙ led in
                    both_ways (is_below_led edition next middle (get_or after j 0)) above
                    (led-more edition starts next old middle (get_or after j 0) kept up led_here))
              ]
            ]
      ]

  -- and a word that is asked for is one of an old object
  owned : (j : ℕ) → IsAsked edition after next old middle fields weaks j → IsWordFrom edition after next 0 middle j
  owned j is = elim is.0 [
    | inl field ↦
        let at = gathered.fields_are j field in
        let refs = ap refs_of (header-stays at.0 at.1 at.2) in
        (at.0, omega arith, omega (arith, at.1, up), kept at.0 at.1 ∙ at.2, omega (arith, at.3), omega (arith, at.4, refs))
    | inr rest ↦ elim rest [
      | inl weak_field ↦
          let at = gathered_weak.fields_are j weak_field in
          let refs = ap refs_of (header-stays at.0 at.1 at.2) in
          let weak = ap weak_of (header-stays at.0 at.1 at.2) in
          (at.0, omega arith, omega (arith, at.1, up), kept at.0 at.1 ∙ at.2, omega (arith, at.3), omega (arith, at.4, refs, weak))
      | inr word ↦ (let at = word.0 in (at.0, omega arith, at.2, at.3, at.4, at.5))
    ]
  ]

  pub made-cards : AreMarked [] made (λ n. IsAsked edition after next old middle fields weaks n) → AreMade edition after next middle made
  made-cards marked = record {
    dirty = λ j at above. ap not (ne_eqb (get_or made (j / 64) 0) 0 (marked.dirty j (asked j at above)));
    only = λ k set. elim (marked.only k set) [
      | inl none ↦ absurd (none refl)
      | inr at ↦ (at.0, at.2, owned at.0 at.1, at.1.1)
    ];
  }
