-- All words are the part that begins at word 0; and two parts, cut at an object that stays, are one.
use Rattle.std.proofs.Common.{◌≡◌, ◌≢◌, ℕ, zero, suc, ◌+◌, ◌-◌, ◌*◌, ◌^◌, ◌<◌, ◌≤◌, Bool, true, false, cond, ltb, List, [], ◌∷◌, ◌++◌, length, get_or, take, drop, map, inl, inr, refl, sym, ap, subst, ◌∙◌, arith, length-take, length-drop, length-append}
use Rattle.std.specs.Prelude.{All}
use Rattle.std.proofs.lemmas.Bool.{cases_Bool, cases_eq, cases_lt, cases_order, both_ways, eq-eqb, ne_eqb, lt-ltb, le-ltb, false_from_ne_true}
use Rattle.std.proofs.lemmas.Grind.{same_number_lists}
use Rattle.std.proofs.lemmas.List.{get_or-take, get_or-drop, length-map}
use Rattle.heap_layout.specs.declared.edition.Edition.{Edition}
use Rattle.heap_layout.specs.declared.edition.Edition.TheVariants.{One, Two, Three, Four}
use Rattle.heap_layout.specs.Bits.{bit}
use Rattle.heap_layout.specs.Header.{refs_of, weak_of, data_of, size_of}
use Rattle.heap_layout.specs.Heap.{Heap, Object, header_at, object_at, live, IsPlaced, IsValue}
use Rattle.heap_layout.specs.Limits.{most_words}
use Rattle.mark_tables.specs.LiveWords.{size}
use Rattle.rest_marks.specs.Places.{led_words}
use Rattle.rest_marks.specs.Surveys.{marks_of, told, AreTables}
use Rattle.rest_marks.proofs.Bounding.{bit-past}
use Rattle.rest_slide.proofs.Filling.{live-placed, live-value}
use Rattle.rest_marks.proofs.Heads.{head-number, mark-set, marks-above, marks-apart}
use Rattle.rest_slide.proofs.Led.{led-header, led-refers, led-data}
use Rattle.pinned_heap.specs.Around.{end_from, led_around, led_object, runs_from, IsFilled, IsSlidAround}
use Rattle.pinned_heap.specs.Parts.{led_word, ArePartTables, IsPartSlid}
use Rattle.pinned_heap.specs.Pins.{places_from}
use Rattle.pinned_heap.specs.Tables.{end_below, kept_at_place, place_by}
use Rattle.pinned_heap.specs.declared.run.Run.{Run}
use Rattle.pinned_heap.proofs.Linking.{end-gap, inner, kept-value, link-all, link-end, link-low, link-place, owner}

-- ---- runs

-- one run more
all-more : (P : Run → Type 0) (run : Run) (runs : List Run) → P run → All P runs → All P (run ∷ runs)
all-more P run runs here rest zero d lt = here
all-more P run runs here rest (suc k) d lt = rest k d (omega (arith, lt))

-- what is true of the run before each object that has one is true of all runs
runs-all : (P : Run → Type 0) (staying : ℕ → Bool) (next : ℕ) (objects : List Object)
    → ((k : ℕ) → k < length objects → end_from staying next (take k objects) ≢ get_or (places_from staying next objects) k 0
    → P (record { start = end_from staying next (take k objects); end = get_or (places_from staying next objects) k 0 }))
    → All P (runs_from staying next objects)
runs-all P staying next [] each = λ k d lt. absurd (omega (arith, lt))
runs-all P staying next (object ∷ objects) each =
    let start = cond (staying object.index) object.index next in
    let run : Run = record { start = next; end = start } in
    let behind = runs_from staying (start + size object) objects in
    let rest : All P behind = runs-all P staying (start + size object) objects (λ k lt other. each (suc k) (omega (arith, lt)) other) in
    elim (cases_eq next start) [
      | inl same ↦ subst (All P) (sym (ap (λ (b : Bool). cond b behind (run ∷ behind)) (eq-eqb next start same))) rest
      | inr other ↦ subst (All P) (sym (ap (λ (b : Bool). cond b behind (run ∷ behind)) (ne_eqb next start other))) (all-more P run behind (each 0 (omega arith) other) rest)
    ]

-- ---- one object

few-words : (edition : Edition) → most_words edition ≤ 2 ^ 31
few-words One = omega arith
few-words Two = omega arith
few-words Three = omega arith
few-words Four = omega arith

-- how many words an object has that is led
field-count : (g : ℕ → ℕ) (word : ℕ) (references weak data_words : List ℕ)
    → length (word ∷ (map g references ++ map g weak ++ data_words)) ≡ 1 + length references + length weak + length data_words
field-count g word references weak data_words =
    let all = length-append (map g references ++ map g weak) data_words in
    let both = length-append (map g references) (map g weak) in
    omega (arith, all, both, length-map references g, length-map weak g)

-- an object that is led is as long as before
led-length : (g : ℕ → ℕ) (edition : Edition) (words : List ℕ) (i : ℕ) → IsPlaced edition words i
    → length (led_words g (object_at edition words i)) ≡ size_of (header_at edition words i)
led-length g edition words i placed =
    let object = object_at edition words i in
    let h = header_at edition words i in
    let one : length object.references ≡ refs_of h = omega (arith, length-take (refs_of h) (drop (i + 1) words), length-drop (i + 1) words, placed.within) in
    let two : length object.weak ≡ weak_of h = omega (arith, length-take (weak_of h) (drop (i + 1 + refs_of h) words), length-drop (i + 1 + refs_of h) words, placed.within) in
    let three : length object.data_words ≡ data_of h =
    omega (arith, length-take (data_of h) (drop (i + 1 + refs_of h + weak_of h) words), length-drop (i + 1 + refs_of h + weak_of h) words, placed.within) in
    field-count g h.word object.references object.weak object.data_words ∙ omega (arith, one, two, three)

-- ---- all words

module _ (edition : Edition) (old heads bits counts stays : List ℕ) (tables : AreTables edition old heads bits counts)
    (objects-stay : (i : ℕ) → bit stays i ≡ true → bit heads i ≡ true) where
  abbrev heap : Heap
  heap = told edition old heads

  abbrev objects : List Object
  objects = live heap

  abbrev mark : ℕ → ℕ
  mark k = get_or (marks_of heads) k 0

  abbrev size_at : ℕ → ℕ
  size_at i = size_of (header_at edition old i)

  abbrev ended : ℕ → ℕ
  ended i = end_below (bit bits) (bit stays) i

  abbrev led : ℕ → ℕ
  led word = led_around edition (bit stays) objects word

  abbrev keep : ℕ → ℕ
  keep word = kept_at_place edition heads bits stays word

  many : length objects ≡ length (marks_of heads)
  many = length-map (marks_of heads) (object_at edition old)

  within : (i : ℕ) → bit heads i ≡ true → i + size_at i ≤ length old
  within i head = (live-placed edition old heads bits counts tables i head).within

  run : (i j : ℕ) → bit heads i ≡ true → i ≤ j → j < i + size_at i → bit bits j ≡ true
  run i j head le lt =
      let number = head-number heads i head in
      let own = ap size_at number.2 in
      inner edition old heads bits counts stays tables objects-stay number.0 j number.1 (omega (arith, number.2, le)) (omega (arith, number.2, own, lt))

  apart : (i j : ℕ) → bit heads i ≡ true → i < j → j < i + size_at i → bit heads j ≡ false
  apart i j head past lt = false_from_ne_true (bit heads j) (λ set.
      let one = head-number heads i head in
      let other = head-number heads j set in
      let own = ap size_at one.2 in
      elim (cases_order one.0 other.0) [
        | inl same ↦ (let e = ap mark same in omega (arith, e, one.2, other.2, past))
        | inr (inl less) ↦ (let behind = marks-apart heap tables.sound one.0 other.0 less other.1 in omega (arith, behind, one.2, other.2, own, lt))
        | inr (inr more) ↦ (let rise = marks-above heap tables.sound other.0 one.0 more one.1 in omega (arith, rise, one.2, other.2, past))
      ])

  owned : (j : ℕ) → bit bits j ≡ true → (i : ℕ) × (i ≤ j) × (bit heads i ≡ true) × (j < i + size_at i)
  owned j set =
      let at = owner edition old heads bits counts stays tables objects-stay j set in
      (mark at.0, at.2, mark-set heads at.0 at.1, at.3)

  -- the tables are those of the part that begins at word 0
  pub tables-whole : ArePartTables edition heads bits stays 0 old
  tables-whole = record {
    few = omega (arith, tables.sound.few_words, few-words edition);
    same = tables.same;
    first = inl refl;
    still = objects-stay;
    placed = λ i le lt head. let e : i ≡ i - 0 = omega arith in subst (IsPlaced edition old) e (live-placed edition old heads bits counts tables i head);
    values = λ i f le lt head some few.
        let e : i ≡ i - 0 = omega arith in
        subst (λ (n : ℕ). f ≤ refs_of (header_at edition old n) → IsValue edition (marks_of heads) (get_or old (n + f) 0)) e
        (λ less. live-value edition old heads bits counts tables i head f some less) few;
    run = λ i j le lt head from below.
        let e : i - 0 ≡ i = omega arith in
        run i j head from (omega (arith, below, ap size_at e));
    apart = λ i j le lt head past below.
        let e : i - 0 ≡ i = omega arith in
        apart i j head past (omega (arith, below, ap size_at e));
    owned = λ j le lt set.
        let at = owned j set in
        let e : at.0 - 0 ≡ at.0 = omega arith in
        (at.0, omega arith, at.1, at.2, omega (arith, at.3, ap size_at e));
  }

  -- word j of an object is what the definition says
  word-led : (i j : ℕ) → bit heads i ≡ true → j < size_at i → led_word edition keep (get_or old i 0) j (get_or old (i + j) 0) ≡ get_or (led_words led (object_at edition old i)) j 0
  word-led i j head lt =
      let placed = live-placed edition old heads bits counts tables i head in
      let n = refs_of (header_at edition old i) + weak_of (header_at edition old i) in
      let word = get_or old (i + j) 0 in
      elim (cases_eq j 0) [
        | inl first ↦
            let here : i + j ≡ i = omega (arith, first) in
            ap (λ (b : Bool). cond b word (cond (ltb n j) word (keep word))) (eq-eqb j 0 first)
            ∙ ap (λ (m : ℕ). get_or old m 0) here
            ∙ sym (led-header led edition old i)
            ∙ ap (λ (m : ℕ). get_or (led_words led (object_at edition old i)) m 0) (sym first)
        | inr some ↦
            ap (λ (b : Bool). cond b word (cond (ltb n j) word (keep word))) (ne_eqb j 0 some)
            ∙ elim (cases_lt n j) [
              | inl past ↦
                  ap (λ (b : Bool). cond b word (keep word)) (lt-ltb n j past)
                  ∙ sym (led-data led edition old i j placed (omega (arith, past)) lt)
              | inr le ↦
                  ap (λ (b : Bool). cond b word (keep word)) (le-ltb n j le)
                  ∙ kept-value edition old heads bits counts stays tables objects-stay word
                  ∙ sym (led-refers led edition old i j placed (omega (arith, some)) le)
            ]
      ]

  -- no word behind all words is live, or stays
  past-words : (j : ℕ) → length old ≤ j → (bit bits j ≡ false) × (bit stays j ≡ false)
  past-words j le = (
    false_from_ne_true (bit bits j) (λ set. let at = owned j set in let inside = within at.0 at.2 in omega (arith, inside, at.3, le)),
    false_from_ne_true (bit stays j) (λ set. let inside = within j (objects-stay j set) in omega (arith, inside, le)),
  )

  -- nor is one behind the bits
  past-bits : (j : ℕ) → 64 * length bits ≤ j → (bit bits j ≡ false) × (bit stays j ≡ false)
  past-bits j le = (bit-past bits j le, false_from_ne_true (bit stays j) (λ set. both_ways (bit heads j) (bit-past heads j (omega (arith, le, tables.same))) (objects-stay j set)))

  -- so the live words end where the last object does
  end-all : ended (length old) ≡ end_from (bit stays) 0 objects
  end-all =
      let all = link-all edition old heads bits counts stays tables objects-stay in
      elim (cases_lt (length old) (64 * length bits)) [
        | inl shorter ↦
            let whole : length old + (64 * length bits - length old) ≡ 64 * length bits = omega (arith, shorter) in
            sym (end-gap (bit bits) (bit stays) (length old) (64 * length bits - length old) (λ j le lt. past-words j le)) ∙ ap ended whole ∙ all
        | inr longer ↦
            let whole : 64 * length bits + (length old - 64 * length bits) ≡ length old = omega (arith, longer) in
            ap ended (sym whole) ∙ end-gap (bit bits) (bit stays) (64 * length bits) (length old - 64 * length bits) (λ j le lt. past-bits j le) ∙ all
      ]

  pub slid-whole : (new : List ℕ) → IsPartSlid edition heads bits stays 0 old new → IsSlidAround (told edition old heads) (bit stays) new
  slid-whole new is =
      let end = end_from (bit stays) 0 objects in
      record {
        long = is.long;
        objects = λ k lt.
            let i = mark k in
            let head = mark-set heads k lt in
            let placed = live-placed edition old heads bits counts tables i head in
            let slid = is.objects i (omega arith) (omega (arith, placed.within)) head in
            let e : i - 0 ≡ i = omega arith in
            let to : place_by bits stays i ≡ get_or (places_from (bit stays) 0 objects) k 0 = link-place edition old heads bits counts stays tables objects-stay k lt in
            let place = get_or (places_from (bit stays) 0 objects) k 0 in
            let expected = led_object (bit stays) heap k in
            let own = led-length led edition old i placed in
            let stand : length (take (length expected) (drop place new)) ≡ length expected =
            omega (arith, length-take (length expected) (drop place new), length-drop place new, own, slid.under, ap size_at e, to, is.long) in
            same_number_lists (take (length expected) (drop place new)) expected stand (λ j less.
            let few : j < size_at i = omega (arith, less, stand, own) in
            let there : place + j ≡ place_by bits stays i - 0 + j = omega (arith, to) in
            let back : i - 0 + j ≡ i + j = omega arith in
            get_or-take (length expected) (drop place new) j 0 (omega (arith, less, stand))
            ∙ get_or-drop place new j 0
            ∙ ap (λ (m : ℕ). get_or new m 0) there
            ∙ slid.made j (omega (arith, few, ap size_at e))
            ∙ ap (λ (m : ℕ). led_word edition keep (get_or old m 0) j (get_or old (i - 0 + j) 0)) e
            ∙ ap (λ (m : ℕ). led_word edition keep (get_or old i 0) j (get_or old m 0)) back
            ∙ word-led i j head few);
        filled = runs-all (IsFilled edition new) (bit stays) 0 objects (λ k lt other.
            let known : k < length (marks_of heads) = omega (arith, lt, many) in
            let i = mark k in
            let at = link-end edition old heads bits counts stays tables objects-stay k known in
            let to = link-place edition old heads bits counts stays tables objects-stay k known in
            elim (cases_Bool (bit stays i)) [
              | inl stay ↦
                  let here : place_by bits stays i ≡ i = ap (λ (b : Bool). cond b i (ended i)) stay in
                  let low = link-low edition old heads bits counts stays tables objects-stay i in
                  let some : ended i < i = omega (arith, low, λ (same : ended i ≡ i). other (sym at ∙ same ∙ sym here ∙ to)) in
                  let placed = live-placed edition old heads bits counts tables i (objects-stay i stay) in
                  let is_filled = (is.filled i (omega (arith, some)) (omega (arith, placed.within)) stay some).filled in
                  let begins : ended i - 0 ≡ end_from (bit stays) 0 (take k objects) = omega (arith, at) in
                  let stops : i - 0 ≡ get_or (places_from (bit stays) 0 objects) k 0 = omega (arith, to, here) in
                  subst (λ (n : ℕ). IsFilled edition new (record { start = end_from (bit stays) 0 (take k objects); end = n })) stops
                  (subst (λ (n : ℕ). IsFilled edition new (record { start = n; end = i - 0 })) begins is_filled)
              | inr slides ↦
                  let here : place_by bits stays i ≡ ended i = ap (λ (b : Bool). cond b i (ended i)) slides in
                  absurd (other (sym at ∙ sym here ∙ to))
            ]);
        behind = same_number_lists (drop end new) (drop end old) (omega (arith, length-drop end new, length-drop end old, is.long)) (λ j less.
            let sum : 0 + length old ≡ length old = omega arith in
            let unset : bit stays (0 + length old) ≡ false = ap (bit stays) sum ∙ (past-words (length old) (omega arith)).1 in
            let ends : ended (0 + length old) ≡ end = ap ended sum ∙ end-all in
            get_or-drop end new j 0 ∙ is.behind unset (end + j) (omega (arith, ends)) ∙ sym (get_or-drop end old j 0));
      }
