-- What was marked above makes, beside the old objects, the tables of a sound heap.
use Rattle.std.proofs.Common.{◌≡◌, ℕ, ◌+◌, ◌-◌, ◌*◌, ◌^◌, ◌<◌, ◌≤◌, ◌==◌, ◌||◌, ◌&&◌, Bool, true, leb, ltb, List, length, get_or, drop, inl, inr, sym, ap, subst, ◌∙◌, Contains, arith, length-take}
use Rattle.std.proofs.lemmas.Bool.{cases_lt, cases_Bool, or_cases, or_left, or_right, and_parts, and_from, leb-true, ltb-true, lt-ltb}
use Rattle.std.proofs.lemmas.List.Elements.{Contains-append_left, Contains-append_right}
use Rattle.std.proofs.lemmas.List.{get_or-take, get_or-drop, get_or-map, length-map}
use Rattle.heap_layout.specs.declared.edition.Edition.{Edition}
use Rattle.heap_layout.specs.Bits.{bit, leads}
use Rattle.heap_layout.specs.Header.{refs_of, weak_of, size_of}
use Rattle.heap_layout.specs.Heap.{from_address, header_at, object_at}
use Rattle.heap_layout.specs.Limits.{most_words, most_roots}
use Rattle.heap_layout.specs.Values.{is_immediate, or_immediate}
use Rattle.mark_tables.specs.MarkBitmap.{AreOffsets}
use Rattle.reachability.specs.Queue.{has, is_address}
use Rattle.reachability.proofs.Queues.{has-at, place-of}
use Rattle.reachability.proofs.Rising.{contains-had}
use Rattle.rest_marks.specs.Marks.{AllKept, IsKept}
use Rattle.rest_marks.specs.Meeting.{AreApart}
use Rattle.rest_marks.specs.Reached.{is_below, leads_within, is_within, IsWordOf, IsSound}
use Rattle.rest_marks.specs.Surveys.{marks_of, AreTables}
use Rattle.rest_marks.proofs.Lent as lent
use Rattle.young_heap.specs.Young.{is_led, is_below_led, may_lead, seeds, words_at, AllLed, AreKeptBelow, AreOld, AreRemembered, IsDoneAbove, IsReachedAbove, LeadAbove, by_seed, by_reference}

-- What marking found above the old objects.
pub record IsMarkedAbove (edition : Edition) (old : ℕ) (words roots fields weaks starts heads bits : List ℕ) : Type 0 where
  pub few_words : length words ≤ most_words edition
  pub few_roots : length roots ≤ most_roots edition
  pub reached : (i : ℕ) → old ≤ i → bit heads i ≡ true → IsReachedAbove edition old words (seeds words roots fields) i
  pub all : (i : ℕ) → IsReachedAbove edition old words (seeds words roots fields) i → bit heads i ≡ true
  pub done : (i : ℕ) → old ≤ i → bit heads i ≡ true → IsDoneAbove edition starts old words bits i
  pub only : (j : ℕ) → old ≤ j → bit bits j ≡ true → (i : ℕ) × (old ≤ i) × (bit heads i ≡ true) × IsWordOf edition words i j
  pub apart : (i j : ℕ) → old ≤ i → bit heads i ≡ true → bit heads j ≡ true → i < j → i + size_of (header_at edition words i) ≤ j
  pub roots_lead : AllLed edition starts old (length words) roots
  pub fields_lead : AllLed edition starts old (length words) (words_at words fields)
  pub weaks_lead : (j : ℕ) → has weaks j ≡ true → is_within edition (length words) (get_or words j 0) ≡ true
  pub heads_below : AreKeptBelow old starts heads
  pub bits_below : (j : ℕ) → j < old → bit bits j ≡ true
  pub room : length words ≤ 64 * length bits

module _ (edition : Edition) (old : ℕ) (words roots fields weaks starts heads bits : List ℕ)
    (old_are : AreOld edition words starts old) (remembered : AreRemembered edition words starts old fields weaks)
    (marked : IsMarkedAbove edition old words roots fields weaks starts heads bits) where
  abbrev count : ℕ
  count = length words

  abbrev from : List ℕ
  from = seeds words roots fields

  abbrev kept_word : ℕ → Bool
  kept_word word = or_immediate edition (leads heads) word

  -- a word that is led leads to a marked object, if what it leads to above is marked
  led-kept : (word : ℕ) → is_led edition starts old count word ≡ true → ((i : ℕ) → old ≤ i → i < count → word ≡ from_address i → bit heads i ≡ true) → kept_word word ≡ true
  led-kept word led lives = elim (or_cases (is_immediate edition word) ((word == 0) || is_address (may_lead starts old count) word) led) [
    | inl immediate ↦ or_left (is_immediate edition word) (leads heads word) immediate
    | inr other ↦ or_right (is_immediate edition word) (leads heads word)
        (elim (or_cases (word == 0) (is_address (may_lead starts old count) word) other) [
          | inl null ↦ or_left (word == 0) (is_address (bit heads) word) null
          | inr address ↦
              let i = word - 2 ^ 32 in
              let parts = and_parts (leb (2 ^ 32) word) (may_lead starts old count i) address in
              let low = leb-true (2 ^ 32) word parts.0 in
              let may = and_parts (ltb i count) (leb old i || bit starts i) parts.1 in
              let set : bit heads i ≡ true = elim (cases_lt i old) [
                | inl below ↦ elim (or_cases (leb old i) (bit starts i) may.1) [
                  | inl above ↦ absurd (omega (arith, leb-true old i above, below))
                  | inr start ↦ marked.heads_below i below ∙ start
                ]
                | inr above ↦ lives i above (ltb-true i count may.0) (omega (arith, low))
              ] in
              or_right (word == 0) (is_address (bit heads) word) (and_from (leb (2 ^ 32) word) (bit heads i) parts.0 set)
        ])
  ]

  -- and one that leads below leads to one
  below-kept : (word : ℕ) → is_below_led edition starts old word ≡ true → kept_word word ≡ true
  below-kept word led = elim (or_cases (is_immediate edition word) ((word == 0) || is_address (λ i. ltb i old && bit starts i) word) led) [
    | inl immediate ↦ or_left (is_immediate edition word) (leads heads word) immediate
    | inr other ↦ or_right (is_immediate edition word) (leads heads word)
        (elim (or_cases (word == 0) (is_address (λ i. ltb i old && bit starts i) word) other) [
          | inl null ↦ or_left (word == 0) (is_address (bit heads) word) null
          | inr address ↦
              let i = word - 2 ^ 32 in
              let parts = and_parts (leb (2 ^ 32) word) (ltb i old && bit starts i) address in
              let at = and_parts (ltb i old) (bit starts i) parts.1 in
              let set : bit heads i ≡ true = marked.heads_below i (ltb-true i old at.0) ∙ at.1 in
              or_right (word == 0) (is_address (bit heads) word) (and_from (leb (2 ^ 32) word) (bit heads i) parts.0 set)
        ])
  ]

  -- and to a word
  below-within : (word : ℕ) → is_below_led edition starts old word ≡ true → is_within edition count word ≡ true
  below-within word led = elim (or_cases (is_immediate edition word) ((word == 0) || is_address (λ i. ltb i old && bit starts i) word) led) [
    | inl immediate ↦ or_left (is_immediate edition word) (leads_within count word) immediate
    | inr other ↦ or_right (is_immediate edition word) (leads_within count word)
        (elim (or_cases (word == 0) (is_address (λ i. ltb i old && bit starts i) word) other) [
          | inl null ↦ or_left (word == 0) (is_address (is_below count) word) null
          | inr address ↦
              let i = word - 2 ^ 32 in
              let parts = and_parts (leb (2 ^ 32) word) (ltb i old && bit starts i) address in
              let at = and_parts (ltb i old) (bit starts i) parts.1 in
              let inside : i < count = omega (arith, ltb-true i old at.0, old_are.within) in
              or_right (word == 0) (is_address (is_below count) word) (and_from (leb (2 ^ 32) word) (is_below count i) parts.0 (lt-ltb i count inside))
        ])
  ]

  -- a word among others leads to what they lead to
  lead-at : (words_from : List ℕ) (k i : ℕ) → k < length words_from → old ≤ i → i < count → get_or words_from k 0 ≡ from_address i → LeadAbove old words words_from i
  lead-at words_from k i lt above inside address = record {
    inside = inside;
    above = above;
    address = subst (Contains words_from) address (contains-had words_from (get_or words_from k 0) (has-at words_from k lt));
  }

  -- a seed is a root or a field
  seed-root : (i : ℕ) → LeadAbove old words roots i → bit heads i ≡ true
  seed-root i leads_to = marked.all i (by_seed i (record { inside = leads_to.inside; above = leads_to.above; address = Contains-append_left roots (words_at words fields) (from_address i) leads_to.address }))

  seed-field : (i : ℕ) → LeadAbove old words (words_at words fields) i → bit heads i ≡ true
  seed-field i leads_to = marked.all i (by_seed i (record { inside = leads_to.inside; above = leads_to.above; address = Contains-append_right roots (words_at words fields) (from_address i) leads_to.address }))

  pub kept-roots : AllKept edition heads roots
  kept-roots k lt = led-kept (get_or roots k 0) (marked.roots_lead k lt) (λ i above inside address. seed-root i (lead-at roots k i lt above inside address))

  -- a field leads to a marked object
  kept-field : (j : ℕ) → has fields j ≡ true → kept_word (get_or words j 0) ≡ true
  kept-field j there =
      let at = place-of fields j there in
      let k = at.0 in
      let long = length-map fields (λ n. get_or words n 0) in
      let lt : k < length (words_at words fields) = omega (arith, at.1, long) in
      let word : get_or (words_at words fields) k 0 ≡ get_or words j 0 = get_or-map (λ n. get_or words n 0) fields k 0 0 at.1 ∙ ap (λ (n : ℕ). get_or words n 0) at.2 in
      subst (λ (w : ℕ). kept_word w ≡ true) word
      (led-kept (get_or (words_at words fields) k 0) (marked.fields_lead k lt) (λ i above inside address. seed-field i (lead-at (words_at words fields) k i lt above inside address)))

  -- the references and the weak words of an object, where they stand
  reference-at : (i k : ℕ) → k < length (object_at edition words i).references
      → (k < refs_of (header_at edition words i)) × (get_or (object_at edition words i).references k 0 ≡ get_or words (i + (1 + k)) 0)
  reference-at i k lt =
      let refs = refs_of (header_at edition words i) in
      let long = length-take refs (drop (i + 1) words) in
      let short : k < refs = omega (arith, lt, long) in
      let place : i + 1 + k ≡ i + (1 + k) = omega arith in
      (short, get_or-take refs (drop (i + 1) words) k 0 short ∙ get_or-drop (i + 1) words k 0 ∙ ap (λ (n : ℕ). get_or words n 0) place)

  weak-at : (i k : ℕ) → k < length (object_at edition words i).weak
      → (k < weak_of (header_at edition words i)) × (get_or (object_at edition words i).weak k 0 ≡ get_or words (i + (1 + refs_of (header_at edition words i) + k)) 0)
  weak-at i k lt =
      let refs = refs_of (header_at edition words i) in
      let weak = weak_of (header_at edition words i) in
      let long = length-take weak (drop (i + 1 + refs) words) in
      let short : k < weak = omega (arith, lt, long) in
      let place : i + 1 + refs + k ≡ i + (1 + refs + k) = omega arith in
      (short, get_or-take weak (drop (i + 1 + refs) words) k 0 short ∙ get_or-drop (i + 1 + refs) words k 0 ∙ ap (λ (n : ℕ). get_or words n 0) place)

  -- an old object is kept
  kept-old : (i : ℕ) → i < old → bit starts i ≡ true → IsKept edition words heads i
  kept-old i below start = record {
    placed = old_are.placed i below start;
    references = λ k lt.
        let at = reference-at i k lt in
        let word : kept_word (get_or words (i + (1 + k)) 0) ≡ true = elim (cases_Bool (has fields (i + (1 + k)))) [
          | inl there ↦ kept-field (i + (1 + k)) there
          | inr none ↦ below-kept (get_or words (i + (1 + k)) 0) (remembered.clean i (1 + k) below start (omega arith) (omega (arith, at.0)) none)
        ] in
        subst (λ (w : ℕ). kept_word w ≡ true) (sym at.1) word;
    weak = λ k lt.
        let at = weak-at i k lt in
        let refs = refs_of (header_at edition words i) in
        let j = i + (1 + refs + k) in
        let word : is_within edition count (get_or words j 0) ≡ true = elim (cases_Bool (has weaks j)) [
          | inl there ↦ marked.weaks_lead j there
          | inr none ↦ below-within (get_or words j 0) (remembered.weak i (1 + refs + k) below start (omega arith) (omega (arith, at.0)) none)
        ] in
        subst (λ (w : ℕ). is_within edition count w ≡ true) (sym at.1) word;
  }

  -- so is one above
  kept-young : (i : ℕ) → old ≤ i → bit heads i ≡ true → IsKept edition words heads i
  kept-young i above set =
      let done = marked.done i above set in
      record {
        placed = done.placed;
        references = λ k lt.
            led-kept (get_or (object_at edition words i).references k 0) (done.references k lt)
            (λ j high inside address. marked.all j (by_reference i j (marked.reached i above set) (lead-at (object_at edition words i).references k j lt high inside address)));
        weak = done.weak;
      }

  pub all-kept : (i : ℕ) → bit heads i ≡ true → IsKept edition words heads i
  all-kept i set = elim (cases_lt i old) [
    | inl below ↦ kept-old i below (sym (marked.heads_below i below) ∙ set)
    | inr above ↦ kept-young i above set
  ]

  pub all-apart : AreApart edition words heads
  all-apart i j one two order = elim (cases_lt i old) [
    | inl below ↦
        let start : bit starts i ≡ true = sym (marked.heads_below i below) ∙ one in
        elim (cases_lt j old) [
          | inl low ↦ old_are.apart i j start (sym (marked.heads_below j low) ∙ two) order low
          | inr high ↦ omega (arith, old_are.inside i below start, high)
        ]
    | inr above ↦ marked.apart i j above one two order
  ]

  pub all-run : (i j : ℕ) → bit heads i ≡ true → IsWordOf edition words i j → bit bits j ≡ true
  all-run i j set of = elim (cases_lt j old) [
    | inl low ↦ marked.bits_below j low
    | inr high ↦ elim (cases_lt i old) [
      | inl below ↦ absurd (omega (arith, old_are.inside i below (sym (marked.heads_below i below) ∙ set), of.1, high))
      | inr above ↦ (marked.done i above set).run j of
    ]
  ]

  pub all-only : (j : ℕ) → bit bits j ≡ true → (i : ℕ) × (bit heads i ≡ true) × IsWordOf edition words i j
  all-only j set = elim (cases_lt j old) [
    | inl low ↦
        let at = old_are.row j low in
        (at.0, marked.heads_below at.0 (omega (arith, at.2.0, low)) ∙ at.1, at.2)
    | inr high ↦ (let at = marked.only j high set in (at.0, at.2, at.3))
  ]

  pub young-sound : IsSound (record { edition = edition; words = words; marks = marks_of heads; roots = roots })
  young-sound = lent.lent-sound edition words roots heads bits marked.few_words marked.few_roots kept-roots all-kept all-apart

  pub young-tables : (counts : List ℕ) → AreOffsets bits counts → length heads ≡ length bits → AreTables edition words heads bits counts
  young-tables counts offsets same = record {
    sound = lent.told-sound edition words roots heads bits marked.few_words marked.few_roots kept-roots all-kept all-apart;
    indices = lent.told-indices edition words roots heads bits marked.few_words marked.few_roots kept-roots all-kept all-apart all-run all-only marked.room;
    offsets = offsets;
    same = same;
  }
