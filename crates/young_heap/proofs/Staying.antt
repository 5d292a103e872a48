-- The words of old objects, of which only the fields and the weak words that are remembered change.
use Rattle.std.proofs.Common.{◌≡◌, ◌≢◌, ℕ, suc, zero, ◌+◌, ◌-◌, ◌*◌, ◌^◌, ◌<◌, ◌≤◌, ◌==◌, ◌||◌, ◌&&◌, Bool, true, false, cond, leb, ltb, min, List, length, get_or, inl, inr, sym, ap, subst, ◌∙◌, arith}
use Rattle.std.specs.List.Sorted.{IsStrictlyIncreasing}
use Rattle.std.proofs.lemmas.Bool.{both_ways, cases_Bool, cases_order, eqb-true, or_cases, and_parts, and_from, leb-true, le-leb, ltb-true, ne_eqb}
use Rattle.std.proofs.lemmas.List.FromFn.{length-range_with_len}
use Rattle.heap_layout.specs.declared.edition.Edition.{Edition}
use Rattle.heap_layout.specs.Bits.{bit}
use Rattle.heap_layout.specs.Header.{refs_of, weak_of, size_of}
use Rattle.heap_layout.specs.Heap.{header_at}
use Rattle.heap_layout.specs.Values.{is_immediate}
use Rattle.mark_tables.specs.MarkBitmap.{passing, set_bits}
use Rattle.mark_tables.specs.LiveWords.{live_below}
use Rattle.mark_tables.proofs.Passing.{passing-all, passing-below}
use Rattle.reachability.specs.Queue.{has, is_address}
use Rattle.reachability.proofs.Queues.{has-at, place-of}
use Rattle.rest_marks.specs.Looking.{led_to, kept_by}
use Rattle.rest_marks.specs.Surveys.{AreTables}
use Rattle.rest_marks.proofs.Bounding.{bit-inside}
use Rattle.rest_slide.proofs.Filling.{live-value}
use Rattle.rest_slide.proofs.Settling.{target-known}
use Rattle.young_heap.specs.Young.{is_below_led, AreFieldsBelow, AreOld, AreRemembered}
use Rattle.young_heap.proofs.Entering.{AreOldSettled}

-- the numbers of a rising list rise
rise : (xs : List ℕ) → IsStrictlyIncreasing xs → (k n : ℕ) → k + suc n < length xs → get_or xs k 0 < get_or xs (k + suc n) 0
rise xs rising k zero lt =
    let one : k + 1 ≡ k + suc 0 = omega arith in
    subst (λ (m : ℕ). get_or xs k 0 < get_or xs m 0) one (rising k (omega (arith, lt)))
rise xs rising k (suc n) lt =
    let next : k + suc n + 1 ≡ k + suc (suc n) = omega arith in
    let last = rising (k + suc n) (omega (arith, lt)) in
    let before = rise xs rising k n (omega (arith, lt)) in
    subst (λ (m : ℕ). get_or xs k 0 < get_or xs m 0) next (omega (arith, last, before))

above : (xs : List ℕ) → IsStrictlyIncreasing xs → (k l : ℕ) → k < l → l < length xs → get_or xs k 0 < get_or xs l 0
above xs rising k l order lt =
    let n = l - k - 1 in
    let at : k + suc n ≡ l = omega (arith, order) in
    subst (λ (m : ℕ). get_or xs k 0 < get_or xs m 0) at (rise xs rising k n (omega (arith, at, lt)))

-- so two of them differ
pub differ : (xs : List ℕ) → IsStrictlyIncreasing xs → (k l : ℕ) → k ≢ l → k < length xs → l < length xs → get_or xs k 0 ≢ get_or xs l 0
differ xs rising k l other one two same = elim (cases_order k l) [
  | inl equal ↦ other equal
  | inr (inl less) ↦ (let up = above xs rising k l less two in omega (arith, up, same))
  | inr (inr more) ↦ (let up = above xs rising l k more one in omega (arith, up, same))
]

-- below a bit all below which are set
pub ones-below : (p : ℕ → Bool) (i : ℕ) → ((j : ℕ) → j < i → p j ≡ true) → length (passing p i) ≡ i
ones-below p i all =
    let e : 0 + i ≡ i = omega arith in
    ap (λ (n : ℕ). length (passing p n)) (sym e) ∙ ap length (passing-all p 0 i (λ j from lt. all j (omega (arith, lt)))) ∙ length-range_with_len 0 i

module _ (edition : Edition) (old : ℕ) (words heads bits counts fields weaks : List ℕ) (tables : AreTables edition words heads bits counts)
    (old_are : AreOld edition words heads old) (remembered : AreRemembered edition words heads old fields weaks) (fields_are : AreFieldsBelow old fields)
    (weaks_are : AreFieldsBelow old weaks) (ones : (j : ℕ) → j < old → bit bits j ≡ true) where
  below-old : (i : ℕ) → i < old → i < 64 * length bits → live_below (set_bits bits) i ≡ i
  below-old i low inside =
      let least : min i (64 * length bits) ≡ i = omega (arith, inside) in
      passing-below (bit bits) (64 * length bits) i ∙ ap (λ (n : ℕ). length (passing (bit bits) n)) least
      ∙ ones-below (bit bits) i (λ j lt. ones j (omega (arith, lt, low)))

  -- an old object stays where it is
  stays-at : (i : ℕ) → i < old → bit heads i ≡ true → live_below (set_bits bits) i ≡ i
  stays-at i low set = below-old i low (omega (arith, bit-inside heads i set, tables.same))

  -- a word that leads below, to an old object
  led-below : (word : ℕ) → is_address (λ i. ltb i old && bit heads i) word ≡ true
      → (2 ^ 32 ≤ word) × (bit heads (word - 2 ^ 32) ≡ true) × (live_below (set_bits bits) (word - 2 ^ 32) ≡ word - 2 ^ 32)
  led-below word address =
      let i = word - 2 ^ 32 in
      let parts = and_parts (leb (2 ^ 32) word) (ltb i old && bit heads i) address in
      let at = and_parts (ltb i old) (bit heads i) parts.1 in
      (leb-true (2 ^ 32) word parts.0, at.1, stays-at i (ltb-true i old at.0) at.1)

  -- a word that leads below stays as it is
  pub led-stays : (word : ℕ) → is_below_led edition heads old word ≡ true → led_to edition (set_bits bits) word ≡ word
  led-stays word led = elim (cases_Bool (is_immediate edition word)) [
    | inl is ↦ ap (λ (b : Bool). cond b word (cond (word == 0) 0 (2 ^ 32 + live_below (set_bits bits) (word - 2 ^ 32)))) is
    | inr plain ↦ ap (λ (b : Bool). cond b word (cond (word == 0) 0 (2 ^ 32 + live_below (set_bits bits) (word - 2 ^ 32)))) plain
        ∙ elim (or_cases (is_immediate edition word) ((word == 0) || is_address (λ i. ltb i old && bit heads i) word) led) [
          | inl immediate ↦ absurd (both_ways (is_immediate edition word) plain immediate)
          | inr other ↦ elim (or_cases (word == 0) (is_address (λ i. ltb i old && bit heads i) word) other) [
            | inl null ↦ ap (λ (b : Bool). cond b 0 (2 ^ 32 + live_below (set_bits bits) (word - 2 ^ 32))) null ∙ sym (eqb-true word 0 null)
            | inr address ↦
                let at = led-below word address in
                let some : word ≢ 0 = λ same. omega (arith, at.0, same) in
                ap (λ (b : Bool). cond b 0 (2 ^ 32 + live_below (set_bits bits) (word - 2 ^ 32))) (ne_eqb word 0 some) ∙ omega (arith, at.0, at.2)
          ]
        ]
  ]

  pub kept-stays : (word : ℕ) → is_below_led edition heads old word ≡ true → kept_by edition heads (set_bits bits) word ≡ word
  kept-stays word led = elim (cases_Bool (is_immediate edition word)) [
    | inl is ↦ ap (λ (b : Bool). cond b word (cond (is_address (bit heads) word) (2 ^ 32 + live_below (set_bits bits) (word - 2 ^ 32)) 0)) is
    | inr plain ↦ ap (λ (b : Bool). cond b word (cond (is_address (bit heads) word) (2 ^ 32 + live_below (set_bits bits) (word - 2 ^ 32)) 0)) plain
        ∙ elim (or_cases (is_immediate edition word) ((word == 0) || is_address (λ i. ltb i old && bit heads i) word) led) [
          | inl immediate ↦ absurd (both_ways (is_immediate edition word) plain immediate)
          | inr other ↦ elim (or_cases (word == 0) (is_address (λ i. ltb i old && bit heads i) word) other) [
            | inl null ↦
                let zero_word : word ≡ 0 = eqb-true word 0 null in
                let no : is_address (bit heads) word ≡ false = elim (cases_Bool (is_address (bit heads) word)) [
                  | inl is ↦ absurd (let high = leb-true (2 ^ 32) word (and_parts (leb (2 ^ 32) word) (bit heads (word - 2 ^ 32)) is).0 in omega (arith, high, zero_word))
                  | inr not ↦ not
                ] in
                ap (λ (b : Bool). cond b (2 ^ 32 + live_below (set_bits bits) (word - 2 ^ 32)) 0) no ∙ sym zero_word
            | inr address ↦
                let at = led-below word address in
                let is : is_address (bit heads) word ≡ true = and_from (leb (2 ^ 32) word) (bit heads (word - 2 ^ 32)) (le-leb (2 ^ 32) word at.0) at.1 in
                ap (λ (b : Bool). cond b (2 ^ 32 + live_below (set_bits bits) (word - 2 ^ 32)) 0) is ∙ omega (arith, at.0, at.2)
          ]
        ]
  ]

  -- a remembered word is below
  low-of : (xs : List ℕ) → AreFieldsBelow old xs → (j : ℕ) → has xs j ≡ true → j < old
  low-of xs are j there =
      let at = place-of xs j there in
      let low = are.below at.0 0 at.1 in
      omega (arith, low, at.2)

  -- an old object that has a word of another one is that one
  same-object : (i n j : ℕ) → i < old → bit heads i ≡ true → n < old → bit heads n ≡ true → i ≤ j → j < i + size_of (header_at edition words i)
      → n ≤ j → j < n + size_of (header_at edition words n) → n ≡ i
  same-object i n j low set n_low n_set from to n_from n_to = elim (cases_order n i) [
    | inl same ↦ same
    | inr (inl less) ↦ absurd (let apart = old_are.apart n i n_set set less low in omega (arith, apart, n_to, from))
    | inr (inr more) ↦ absurd (let apart = old_are.apart i n set n_set more n_low in omega (arith, apart, n_from, to))
  ]

  -- a field that is a word of an old object is a reference of it
  field-of : (i j : ℕ) → i < old → bit heads i ≡ true → i ≤ j → j < i + size_of (header_at edition words i) → has fields j ≡ true
      → (i < j) × (j ≤ i + refs_of (header_at edition words i))
  field-of i j low set from to there =
      let at = remembered.fields_are j there in
      let n = at.0 in
      let same = same-object i n j low set at.1 at.2 from to (omega (arith, at.3)) (omega (arith, at.4)) in
      let refs = ap (λ (m : ℕ). refs_of (header_at edition words m)) same in
      (omega (arith, at.3, same), omega (arith, at.4, same, refs))

  -- and one of `weaks` is a weak word of it
  weak-of : (i j : ℕ) → i < old → bit heads i ≡ true → i ≤ j → j < i + size_of (header_at edition words i) → has weaks j ≡ true
      → (i + refs_of (header_at edition words i) < j) × (j ≤ i + refs_of (header_at edition words i) + weak_of (header_at edition words i))
  weak-of i j low set from to there =
      let at = remembered.weaks_are j there in
      let n = at.0 in
      let same = same-object i n j low set at.1 at.2 from to (omega (arith, at.3)) (omega (arith, at.4)) in
      let refs = ap (λ (m : ℕ). refs_of (header_at edition words m)) same in
      let weak = ap (λ (m : ℕ). weak_of (header_at edition words m)) same in
      (omega (arith, at.3, same, refs), omega (arith, at.4, same, refs, weak))

  -- so another word of it is none
  no-field : (i j : ℕ) → i < old → bit heads i ≡ true → i ≤ j → j < i + size_of (header_at edition words i)
      → ((i < j) × (j ≤ i + refs_of (header_at edition words i)) → ⊥) → has fields j ≡ false
  no-field i j low set from to not = elim (cases_Bool (has fields j)) [
    | inl there ↦ absurd (not (field-of i j low set from to there))
    | inr none ↦ none
  ]

  no-weak : (i j : ℕ) → i < old → bit heads i ≡ true → i ≤ j → j < i + size_of (header_at edition words i)
      → ((i + refs_of (header_at edition words i) < j) × (j ≤ i + refs_of (header_at edition words i) + weak_of (header_at edition words i)) → ⊥)
      → has weaks j ≡ false
  no-weak i j low set from to not = elim (cases_Bool (has weaks j)) [
    | inl there ↦ absurd (not (weak-of i j low set from to there))
    | inr none ↦ none
  ]

  -- what a field leads to has its place among the bits
  pub field-known : (n : ℕ) → n < length fields → is_immediate edition (get_or words (get_or fields n 0) 0) ≡ false → get_or words (get_or fields n 0) 0 - 2 ^ 32 < 64 * length bits
  field-known n lt =
      let j = get_or fields n 0 in
      let at = remembered.fields_are j (has-at fields n lt) in
      let i = at.0 in
      let f = j - i in
      let place : i + f ≡ j = omega (arith, at.3) in
      let value = live-value edition words heads bits counts tables i at.2 f (omega (arith, at.3)) (omega (arith, at.3, at.4)) in
      let some : 0 < length bits = omega (arith, bit-inside heads i at.2, tables.same) in
      subst (λ (m : ℕ). is_immediate edition (get_or words m 0) ≡ false → get_or words m 0 - 2 ^ 32 < 64 * length bits) place
      (λ plain. target-known edition words heads bits counts tables (get_or words (i + f) 0) value plain some)

  -- after the fields were forwarded, and then the weak words were settled
  pub old-settled : (middle new : List ℕ) → length new ≡ length words
      → ((n : ℕ) → n < length fields → get_or middle (get_or fields n 0) 0 ≡ led_to edition (set_bits bits) (get_or words (get_or fields n 0) 0))
      → ((j : ℕ) → has fields j ≡ false → get_or middle j 0 ≡ get_or words j 0)
      → ((n : ℕ) → n < length weaks → get_or new (get_or weaks n 0) 0 ≡ kept_by edition heads (set_bits bits) (get_or middle (get_or weaks n 0) 0))
      → ((j : ℕ) → has weaks j ≡ false → get_or new j 0 ≡ get_or middle j 0) → AreOldSettled edition old words heads bits new
  old-settled middle new long settled others weak_settled weak_others = record {
    long = long;
    rest = λ k le. elim (cases_Bool (has fields k)) [
      | inl there ↦ absurd (omega (arith, low-of fields fields_are k there, le))
      | inr none ↦ elim (cases_Bool (has weaks k)) [
        | inl there ↦ absurd (omega (arith, low-of weaks weaks_are k there, le))
        | inr no_weak ↦ weak_others k no_weak ∙ others k none
      ]
    ];
    header = λ i low set.
        weak_others i (no-weak i i low set (omega arith) (omega arith) (λ is. omega (arith, is.0)))
        ∙ others i (no-field i i low set (omega arith) (omega arith) (λ is. omega (arith, is.0)));
    references = λ i k low set lt.
        let j = i + 1 + k in
        let place : i + (1 + k) ≡ j = omega arith in
        let stays = weak_others j (no-weak i j low set (omega arith) (omega (arith, lt)) (λ is. omega (arith, is.0, lt))) in
        elim (cases_Bool (has fields j)) [
          | inl there ↦
              let at = place-of fields j there in
              stays ∙ subst (λ (m : ℕ). get_or middle m 0 ≡ led_to edition (set_bits bits) (get_or words m 0)) at.2 (settled at.0 at.1)
          | inr none ↦
              let clean = remembered.clean i (1 + k) low set (omega arith) (omega (arith, lt)) (ap (has fields) place ∙ none) in
              let led : is_below_led edition heads old (get_or words j 0) ≡ true = sym (ap (λ (m : ℕ). is_below_led edition heads old (get_or words m 0)) place) ∙ clean in
              stays ∙ others j none ∙ sym (led-stays (get_or words j 0) led)
        ];
    weak_words = λ i k low set lt.
        let refs = refs_of (header_at edition words i) in
        let j = i + 1 + refs + k in
        let place : i + (1 + refs + k) ≡ j = omega arith in
        let stays = others j (no-field i j low set (omega arith) (omega (arith, lt)) (λ is. omega (arith, is.1))) in
        elim (cases_Bool (has weaks j)) [
          | inl there ↦
              let at = place-of weaks j there in
              subst (λ (m : ℕ). get_or new m 0 ≡ kept_by edition heads (set_bits bits) (get_or middle m 0)) at.2 (weak_settled at.0 at.1)
              ∙ ap (kept_by edition heads (set_bits bits)) stays
          | inr none ↦
              let weak = remembered.weak i (1 + refs + k) low set (omega arith) (omega (arith, lt)) (ap (has weaks) place ∙ none) in
              let led : is_below_led edition heads old (get_or words j 0) ≡ true = sym (ap (λ (m : ℕ). is_below_led edition heads old (get_or words m 0)) place) ∙ weak in
              weak_others j none ∙ stays ∙ sym (kept-stays (get_or words j 0) led)
        ];
    data_words = λ i k low set from lt.
        weak_others (i + k) (no-weak i (i + k) low set (omega arith) (omega (arith, lt)) (λ is. omega (arith, is.1, from)))
        ∙ others (i + k) (no-field i (i + k) low set (omega arith) (omega (arith, lt)) (λ is. omega (arith, is.1, from)));
  }
