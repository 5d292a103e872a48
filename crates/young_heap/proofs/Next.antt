-- What a collection leaves is all old: the next young collection may take the end of the live words for its watermark.
use Rattle.std.proofs.Common.{◌≡◌, ℕ, ◌+◌, ◌-◌, ◌^◌, ◌<◌, ◌≤◌, ◌==◌, ◌||◌, ◌&&◌, Bool, true, false, cond, leb, ltb, Option, Some, List, [], length, get_or, take, inl, inr, refl, sym, ap, subst, ◌∙◌, arith}
use Rattle.std.specs.Prelude.{unwrap_or}
use Rattle.std.specs.Option.{option_map}
use Rattle.std.specs.List.{list_any}
use Rattle.std.proofs.lemmas.Bool.{cases_Bool, cases_eq, cases_lt, eq-eqb, ne_eqb, or_cases, or_left, or_right, and_parts, and_from, lt-ltb}
use Rattle.std.proofs.lemmas.List.{length-map}
use Rattle.heap_layout.specs.declared.edition.Edition.{Edition}
use Rattle.heap_layout.specs.Bits.{bit, leads}
use Rattle.heap_layout.specs.Header.{refs_of, weak_of, size_of}
use Rattle.heap_layout.specs.Heap.{Heap, Object, header_at, object_at, live, from_address, is_target, IsPlaced}
use Rattle.heap_layout.specs.Values.{is_immediate}
use Rattle.heap_layout.proofs.Marked.{closed}
use Rattle.page_plan.specs.Sliding.{live_words, forward, new_address, number_of}
use Rattle.page_plan.proofs.Marks.{has-address}
use Rattle.page_plan.proofs.NewAddresses.{forward-none}
use Rattle.page_plan.proofs.Objects.{live_words-next}
use Rattle.page_plan.proofs.Ranks.{covered}
use Rattle.reachability.specs.Queue.{is_address}
use Rattle.rest_marks.specs.Reached.{IsSound}
use Rattle.rest_slide.specs.Settled.{lowered, settled_word, places, collected}
use Rattle.rest_marks.specs.Surveys.{marks_of}
use Rattle.rest_marks.proofs.BitsBelow.{live_words-part}
use Rattle.stopped_heap.proofs.Collected.{many, place-at, header-there, placed-there, word-there, collected-accepted}
use Rattle.rest_marks.proofs.Heads.{any-at, head-number, heads-lead, mark-set, marks-apart}
use Rattle.stopped_heap.proofs.Rows.{closed-sound}
use Rattle.rest_slide.proofs.Settling.{settled-all, lowered-plain, settled-immediate, settled-plain, settled-null, settled-lost}
use Rattle.young_heap.specs.Young.{is_below_led, AreOld, AreRemembered}

module _ (heap : Heap) (is : IsSound heap) (starts : List ℕ) (same : marks_of starts ≡ places heap) where
  abbrev edition : Edition
  edition = heap.edition

  abbrev objects : List Object
  objects = live heap

  abbrev words : List ℕ
  words = (collected heap).words

  abbrev place : ℕ → ℕ
  place k = live_words (take k objects)

  abbrev settle : ℕ → ℕ
  settle word = settled_word edition objects word

  sound : IsSound (collected heap)
  sound = closed-sound (collected heap) (closed (collected heap) (collected-accepted heap is))

  -- a start is the place of an object
  pub number : (i : ℕ) → bit starts i ≡ true → (k : ℕ) × (k < length heap.marks) × (get_or (places heap) k 0 ≡ i)
  number i set =
      let at = head-number starts i set in
      let lt : at.0 < length (places heap) = omega (arith, at.1, ap length same) in
      (at.0, omega (arith, lt, many heap is), sym (ap (λ (xs : List ℕ). get_or xs at.0 0) same) ∙ at.2)

  pub start-set : (k : ℕ) → k < length heap.marks → bit starts (place k) ≡ true
  start-set k lt =
      let known : k < length (marks_of starts) = omega (arith, lt, many heap is, ap length same) in
      sym (ap (bit starts) (ap (λ (xs : List ℕ). get_or xs k 0) same ∙ place-at heap is k lt)) ∙ mark-set starts k known

  placed : (i : ℕ) → bit starts i ≡ true → IsPlaced edition words i
  placed i set =
      let at = number i set in
      subst (IsPlaced edition words) (sym (place-at heap is at.0 at.1) ∙ at.2) (placed-there heap is at.0 at.1)

  pub all-old : AreOld edition words starts (length words)
  all-old = record {
    within = omega arith;
    placed = λ i low set. placed i set;
    inside = λ i low set. (placed i set).within;
    apart = λ i j one two order low.
        let k = number i one in
        let l = number j two in
        let sized = ap (λ (n : ℕ). size_of (header_at edition words n)) k.2 in
        let less : k.0 < l.0 = elim (cases_lt k.0 l.0) [
          | inl lt ↦ lt
          | inr le ↦ absurd (elim (cases_eq k.0 l.0) [
            | inl equal ↦ (let e = ap (λ (n : ℕ). get_or (places heap) n 0) equal in omega (arith, e, k.2, l.2, order))
            | inr other ↦ (let back = marks-apart (collected heap) sound l.0 k.0 (omega (arith, le, other)) (omega (arith, k.1, many heap is)) in omega (arith, back, k.2, l.2, order))
          ])
        ] in
        let ends = marks-apart (collected heap) sound k.0 l.0 less (omega (arith, l.1, many heap is)) in
        omega (arith, ends, sized, k.2, l.2);
    row = λ j low.
        let long = settled-all heap is in
        let at = covered objects j (omega (arith, low, long)) in
        let lt : at.0 < length heap.marks = omega (arith, at.1.known, length-map heap.marks (object_at edition heap.words)) in
        let own = live_words-next edition heap.words heap.marks at.0 lt in
        let sized = ap size_of (header-there heap is at.0 lt) in
        (place at.0, start-set at.0 lt, (omega (arith, at.1.begun), omega (arith, at.1.ends, own, sized)));
  }

  -- a place is small
  place-small : (k : ℕ) → 2 ^ 33 + place k < 2 ^ 63
  place-small k = omega (arith, live_words-part heap is k)

  -- a word that is the address of a start leads below
  start-led : (word : ℕ) → leads starts word ≡ true → is_below_led edition starts (length words) word ≡ true
  start-led word led = or_right (is_immediate edition word) ((word == 0) || is_address (λ i. ltb i (length words) && bit starts i) word)
      (elim (or_cases (word == 0) (is_address (bit starts) word) led) [
        | inl null ↦ or_left (word == 0) (is_address (λ i. ltb i (length words) && bit starts i) word) null
        | inr address ↦
            let i = word - 2 ^ 32 in
            let parts = and_parts (leb (2 ^ 32) word) (bit starts i) address in
            let fits = (placed i parts.1).within in
            let inside : i < length words = omega (arith, fits) in
            or_right (word == 0) (is_address (λ j. ltb j (length words) && bit starts j) word)
            (and_from (leb (2 ^ 32) word) (ltb i (length words) && bit starts i) parts.0 (and_from (ltb i (length words)) (bit starts i) (lt-ltb i (length words) inside) parts.1))
      ])

  -- so does the address of a place
  target-led : (word : ℕ) → is_target (places heap) word ≡ true → is_below_led edition starts (length words) word ≡ true
  target-led word target =
      start-led word (ap (λ (test : ℕ → Bool). test word) (heads-lead starts) ∙ ap (λ (marks : List ℕ). is_target marks word) same ∙ target)

  immediate-led : (word : ℕ) → is_immediate edition word ≡ true → is_below_led edition starts (length words) word ≡ true
  immediate-led word immediate = or_left (is_immediate edition word) ((word == 0) || is_address (λ i. ltb i (length words) && bit starts i) word) immediate

  null-led : is_below_led edition starts (length words) 0 ≡ true
  null-led = or_right (is_immediate edition 0) true refl

  -- every word that refers leads below after a collection
  settled-led : (word : ℕ) → is_below_led edition starts (length words) (settle word) ≡ true
  settled-led word = elim (cases_Bool (is_immediate edition word)) [
    | inl immediate ↦
        let stays = settled-immediate edition objects word immediate in
        immediate-led (settle word) (ap (is_immediate edition) stays ∙ immediate)
    | inr plain ↦ elim (cases_Bool (is_target heap.marks word)) [
      | inr fails ↦
          let null : settle word ≡ 0 = settled-lost edition objects word plain (forward-none edition heap.words heap.marks word fails) in
          ap (is_below_led edition starts (length words)) null ∙ null-led
      | inl target ↦ elim (cases_eq word 0) [
        | inl null ↦ ap (is_below_led edition starts (length words)) (ap settle null ∙ settled-null edition objects) ∙ null-led
        | inr other ↦
            let any : list_any (λ m. from_address m == word) heap.marks ≡ true =
            sym (ap (λ (b : Bool). b || list_any (λ m. from_address m == word) heap.marks) (ne_eqb word 0 other)) ∙ target in
            let at = has-address edition heap.words heap.marks word 0 any in
            let k = at.number in
            let zero_first : 0 + k ≡ k = omega arith in
            let to : forward objects word ≡ Some (new_address objects k) =
            ap (λ (b : Bool). cond b (Some 0) (option_map (new_address objects) (number_of objects word))) (ne_eqb word 0 other)
            ∙ ap (option_map (new_address objects)) at.found
            ∙ ap (λ (n : ℕ). Some (new_address objects n)) zero_first in
            let down : 2 ^ 33 + place k - 2 ^ 32 ≡ from_address (place k) = omega arith in
            let led : settle word ≡ from_address (place k) =
            settled-plain edition objects word plain ∙ ap (λ (o : Option ℕ). lowered edition (unwrap_or o 0)) to
            ∙ lowered-plain edition (2 ^ 33 + place k) (place-small k) ∙ down in
            target-led (settle word)
            (or_right (settle word == 0) (list_any (λ m. from_address m == settle word) (places heap))
            (any-at (λ m. from_address m == settle word) (places heap) k (omega (arith, at.known, many heap is))
            (eq-eqb (from_address (get_or (places heap) k 0)) (settle word) (ap from_address (place-at heap is k at.known) ∙ sym led))))
      ]
    ]
  ]

  -- so no field is remembered
  pub none-remembered : AreRemembered edition words starts (length words) [] []
  none-remembered =
      let all : (i f : ℕ) → bit starts i ≡ true → 1 ≤ f → f ≤ refs_of (header_at edition words i) + weak_of (header_at edition words i)
      → is_below_led edition starts (length words) (get_or words (i + f) 0) ≡ true = λ i f set from to.
      let at = number i set in
      let k = at.0 in
      let here : i ≡ place k = sym at.2 ∙ place-at heap is k at.1 in
      let refs = ap (λ (n : ℕ). refs_of (header_at edition words n)) here ∙ ap refs_of (header-there heap is k at.1) in
      let weak = ap (λ (n : ℕ). weak_of (header_at edition words n)) here ∙ ap weak_of (header-there heap is k at.1) in
      let word = ap (λ (n : ℕ). get_or words (n + f) 0) here ∙ word-there heap is k f at.1 from (omega (arith, to, refs, weak)) in
      ap (is_below_led edition starts (length words)) word ∙ settled-led (get_or heap.words (get_or heap.marks k 0 + f) 0) in
      record {
        clean = λ i f low set from to none. all i f set from (omega (arith, to));
        weak = λ i f low set from to none. all i f set (omega (arith, from)) to;
        fields_are = λ j there. absurd (let no : false ≡ true = there in cc);
        weaks_are = λ j there. absurd (let no : false ≡ true = there in cc);
      }
