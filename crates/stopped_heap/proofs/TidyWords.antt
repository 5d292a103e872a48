-- What slid whole, with null in place of wild weak words.
use Rattle.std.proofs.Common.{◌≡◌, ℕ, ◌+◌, ◌-◌, ◌^◌, ◌<◌, ◌≤◌, ◌==◌, ◌&&◌, ◌||◌, Bool, true, false, not, leb, ltb, cond, List, length, get_or, take, drop, inl, inr, refl, sym, ap, subst, ◌∙◌, arith, length-take}
use Rattle.std.specs.Prelude.{All}
use Rattle.std.specs.List.{list_any, range_with_len}
use Rattle.std.proofs.lemmas.Bool.{cases_Bool, cases_lt, cases_eq, both_ways, or_parts, or_left, or_right, and_from, ne_eqb, lt-ltb, le-ltb, le-leb, lt-leb}
use Rattle.std.proofs.lemmas.Grind.{same_number_lists}
use Rattle.std.proofs.lemmas.List.{length-map, get_or_default, get_or-take, get_or-drop}
use Rattle.std.proofs.lemmas.List.Folds.{list_any_none}
use Rattle.std.proofs.lemmas.List.FromFn.{length-range_with_len, get_or-map-range_with_len}
use Rattle.heap_layout.specs.Header.{header_of, refs_of, weak_of, size_of}
use Rattle.heap_layout.specs.Heap.{Heap, from_address, header_at, object_at, live, is_target, IsPlaced, IsValue}
use Rattle.heap_layout.specs.Limits.{most_roots}
use Rattle.heap_layout.specs.Values.{is_immediate}
use Rattle.mark_tables.specs.LiveWords.{live_indices, live_words, live_below}
use Rattle.page_plan.proofs.Marks.{length-live}
use Rattle.page_plan.proofs.Ranks.{covered}
use Rattle.reachability.specs.Queue.{is_address}
use Rattle.rest_marks.specs.Given.{heap_now, HasSlid, HasWeak}
use Rattle.rest_marks.specs.Places.{led_by, led_words, owner, word_now, words_now, Found, IsAsFound, IsFoundOf, IsReferenceNow}
use Rattle.rest_marks.specs.Reached.{is_below, leads_within, is_within, IsSound}
use Rattle.stopped_heap.specs.Tidied.{is_wild_of, is_wild, tidied}
use Rattle.rest_slide.proofs.Led.{led-header, led-refers, led-data}
use Rattle.rest_slide.proofs.Placing.{found_of, starts-next, index-is, owner-is, word-is}
use Rattle.stopped_heap.proofs.Slid.{found-is, same-size, still-found}

not-true : (b : Bool) → not b ≡ true → b ≡ false
not-true true is = absurd (let none : false ≡ true = is in cc)
not-true false is = refl

not-false : (b : Bool) → not b ≡ false → b ≡ true
not-false true is = refl
not-false false is = absurd (let none : true ≡ false = is in cc)

-- null leads to null
led-null : (found : Found) → led_by found 0 ≡ 0
led-null found = elim (cases_Bool (is_immediate found.edition 0)) [
  | inl is ↦ ap (λ (b : Bool). cond b 0 0) is
  | inr plain ↦ ap (λ (b : Bool). cond b 0 0) plain
]

-- a wild word becomes null
led-wild : (found : Found) (word : ℕ) → ((k : ℕ) → k < length found.marks → get_or found.marks k 0 < found.count) → is_within found.edition found.count word ≡ false → led_by found word ≡ 0
led-wild found word inside wild =
    let plain = or_parts (is_immediate found.edition word) (leads_within found.count word) wild in
    let parts = or_parts (word == 0) (is_address (is_below found.count) word) plain.1 in
    let to = 2 ^ 32 + live_below found.indices (word - 2 ^ 32) in
    let lost : list_any (λ mark. from_address mark == word) found.marks ≡ false =
    list_any_none (λ mark. from_address mark == word) found.marks (λ k d lt. ne_eqb (from_address (get_or found.marks k d)) word (λ same.
    let here : get_or found.marks k 0 ≡ get_or found.marks k d = get_or_default found.marks k 0 d lt in
    let back : word - 2 ^ 32 < found.count = omega (arith, inside k lt, here, same) in
    both_ways (is_address (is_below found.count) word) parts.1
    (and_from (leb (2 ^ 32) word) (is_below found.count (word - 2 ^ 32)) (le-leb (2 ^ 32) word (omega (arith, same))) (lt-ltb (word - 2 ^ 32) found.count back)))) in
    let target : is_target found.marks word ≡ false = ap (λ (b : Bool). b || list_any (λ mark. from_address mark == word) found.marks) parts.0 ∙ lost in
    ap (λ (b : Bool). cond b word (cond (word == 0) 0 (cond (is_target found.marks word) to 0))) plain.0
    ∙ ap (λ (b : Bool). cond b 0 (cond (is_target found.marks word) to 0)) parts.0
    ∙ ap (λ (b : Bool). cond b to 0) target

module _ (before : Heap) (sound : IsSound before) (room : ℕ) (words : List ℕ) (count : length words ≡ length before.words)
    (are : IsAsFound (found_of before room) words 0 (length (live_indices (live before)))) where
  abbrev found : Found
  found = found_of before room

  abbrev mark : ℕ → ℕ
  mark k = get_or before.marks k 0

  abbrev size_at : ℕ → ℕ
  size_at k = size_of (header_at before.edition before.words (mark k))

  abbrev starts : ℕ → ℕ
  starts k = live_words (take k (live before))

  abbrev tidy : List ℕ
  tidy = tidied found words

  long : length tidy ≡ length words
  long = length-map (range_with_len 0 (length words)) (λ j. cond (is_wild found words j) 0 (get_or words j 0)) ∙ length-range_with_len 0 (length words)

  inside : (k f : ℕ) → k < length before.marks → f < size_at k → mark k + f < length words
  inside k f lt few = (let placed = sound.placed k 0 lt in omega (arith, placed.within, count, few))

  tidy-at : (j : ℕ) → j < length words → get_or tidy j 0 ≡ cond (is_wild found words j) 0 (get_or words j 0)
  tidy-at j lt = get_or-map-range_with_len (λ j. cond (is_wild found words j) 0 (get_or words j 0)) 0 (length words) j j 0 lt (omega arith)

  -- a word of a live object
  tidy-word : (k f : ℕ) → k < length before.marks → f < size_at k → get_or tidy (mark k + f) 0 ≡ cond (is_wild_of found words (mark k) (mark k + f)) 0 (get_or words (mark k + f) 0)
  tidy-word k f lt few =
      tidy-at (mark k + f) (inside k f lt few)
      ∙ ap (λ (m : ℕ). cond (is_wild_of found words m (mark k + f)) 0 (get_or words (mark k + f) 0)) (owner-is before sound room k f lt few)

  -- stays, if it is the header or a reference
  low-stays : (k f : ℕ) → k < length before.marks → f < size_at k → f ≤ refs_of (header_at before.edition words (mark k)) → get_or tidy (mark k + f) 0 ≡ get_or words (mark k + f) 0
  low-stays k f lt few low =
      let refs = refs_of (header_at before.edition words (mark k)) in
      let weak = weak_of (header_at before.edition words (mark k)) in
      let out : ltb (mark k + refs) (mark k + f) ≡ false = le-ltb (mark k + refs) (mark k + f) (omega (arith, low)) in
      tidy-word k f lt few
      ∙ ap (λ (b : Bool). cond (b && (leb (mark k + f) (mark k + refs + weak) && not (is_within before.edition (length words) (get_or words (mark k + f) 0)))) 0 (get_or words (mark k + f) 0)) out

  -- or a data word
  high-stays : (k f : ℕ) → k < length before.marks → f < size_at k
      → refs_of (header_at before.edition words (mark k)) + weak_of (header_at before.edition words (mark k)) < f → get_or tidy (mark k + f) 0 ≡ get_or words (mark k + f) 0
  high-stays k f lt few high =
      let refs = refs_of (header_at before.edition words (mark k)) in
      let weak = weak_of (header_at before.edition words (mark k)) in
      let wild = not (is_within before.edition (length words) (get_or words (mark k + f) 0)) in
      let in_front : ltb (mark k + refs) (mark k + f) ≡ true = lt-ltb (mark k + refs) (mark k + f) (omega (arith, high)) in
      let out : leb (mark k + f) (mark k + refs + weak) ≡ false = lt-leb (mark k + f) (mark k + refs + weak) (omega (arith, high)) in
      tidy-word k f lt few
      ∙ ap (λ (b : Bool). cond (b && (leb (mark k + f) (mark k + refs + weak) && wild)) 0 (get_or words (mark k + f) 0)) in_front
      ∙ ap (λ (b : Bool). cond (b && wild) 0 (get_or words (mark k + f) 0)) out

  -- a weak word stays, if it is not wild, and is null otherwise
  weak-word : (k f : ℕ) → k < length before.marks → f < size_at k → refs_of (header_at before.edition words (mark k)) < f
      → f ≤ refs_of (header_at before.edition words (mark k)) + weak_of (header_at before.edition words (mark k))
      → get_or tidy (mark k + f) 0 ≡ cond (not (is_within before.edition (length words) (get_or words (mark k + f) 0))) 0 (get_or words (mark k + f) 0)
  weak-word k f lt few above below =
      let refs = refs_of (header_at before.edition words (mark k)) in
      let weak = weak_of (header_at before.edition words (mark k)) in
      let wild = not (is_within before.edition (length words) (get_or words (mark k + f) 0)) in
      let in_front : ltb (mark k + refs) (mark k + f) ≡ true = lt-ltb (mark k + refs) (mark k + f) (omega (arith, above)) in
      let within : leb (mark k + f) (mark k + refs + weak) ≡ true = le-leb (mark k + f) (mark k + refs + weak) (omega (arith, below)) in
      tidy-word k f lt few
      ∙ ap (λ (b : Bool). cond (b && (leb (mark k + f) (mark k + refs + weak) && wild)) 0 (get_or words (mark k + f) 0)) in_front
      ∙ ap (λ (b : Bool). cond (b && wild) 0 (get_or words (mark k + f) 0)) within

  now-size : (k : ℕ) → k < length before.marks → size_of (header_at before.edition words (mark k)) ≡ size_at k
  now-size k lt = same-size before sound room words count are k lt

  -- headers stay
  header-stays : (k : ℕ) → k < length before.marks → get_or tidy (mark k) 0 ≡ get_or words (mark k) 0
  header-stays k lt =
      let here : mark k + 0 ≡ mark k = omega arith in
      let stays = low-stays k 0 lt (omega arith) (omega arith) in
      ap (λ (n : ℕ). get_or tidy n 0) (sym here) ∙ stays ∙ ap (λ (n : ℕ). get_or words n 0) here

  header-same : (k : ℕ) → k < length before.marks → header_at before.edition tidy (mark k) ≡ header_at before.edition words (mark k)
  header-same k lt = ap (header_of before.edition) (header-stays k lt)

  -- so the objects are as they were found
  tidy-found : IsAsFound found tidy 0 (length (live_indices (live before)))
  tidy-found = record {
    sized = λ k n lt from below begun ended. ap size_of (header-same k lt) ∙ are.sized k n lt from below begun ended;
    marked = λ n from below refers.
        let at = covered (live before) n (omega (arith, below, length-live (live before))) in
        let k = at.0 in
        let lt : k < length before.marks = omega (arith, at.1.known, length-map before.marks (object_at before.edition before.words)) in
        let f = n - starts k in
        let few : f < size_at k = omega (arith, at.1.begun, at.1.ends, starts-next before sound room k lt) in
        let index : starts k + f ≡ n = omega (arith, at.1.begun) in
        let here : get_or (live_indices (live before)) n 0 ≡ mark k + f = ap (λ (m : ℕ). get_or (live_indices (live before)) m 0) (sym index) ∙ index-is before sound room k f lt few in
        let owns = owner-is before sound room k f lt few in
        let refers_here : IsReferenceNow found tidy (mark k + f) = subst (IsReferenceNow found tidy) here refers in
        let refs = ap refs_of (header-same k lt) in
        let low : f ≤ refs_of (header_at before.edition words (mark k)) =
        omega (arith, refers_here.1, owns, ap (λ (m : ℕ). refs_of (header_at before.edition tidy m)) owns, refs) in
        let few_now : mark k + f ≤ owner before.marks (mark k + f) + refs_of (header_at before.edition words (owner before.marks (mark k + f))) =
        omega (arith, owns, ap (λ (m : ℕ). refs_of (header_at before.edition words m)) owns, low) in
        let refers_now : IsReferenceNow found words (mark k + f) = (refers_here.0, few_now) in
        let value = are.marked n from below (subst (IsReferenceNow found words) (sym here) refers_now) in
        let stays : get_or words (get_or (live_indices (live before)) n 0) 0 ≡ get_or tidy (get_or (live_indices (live before)) n 0) 0 =
        ap (λ (m : ℕ). get_or words m 0) here ∙ sym (low-stays k f lt few low) ∙ ap (λ (m : ℕ). get_or tidy m 0) (sym here) in
        subst (IsValue before.edition before.marks) stays value;
  }

  -- a word that is not wild leads within, and so does null
  calm : (word : ℕ) → is_within before.edition (length words) (cond (not (is_within before.edition (length words) word)) 0 word) ≡ true
  calm word = elim (cases_Bool (is_within before.edition (length words) word)) [
    | inl within ↦ ap (λ (b : Bool). is_within before.edition (length words) (cond (not b) 0 word)) within ∙ within
    | inr wild ↦
        ap (λ (b : Bool). is_within before.edition (length words) (cond (not b) 0 word)) wild
        ∙ or_right (is_immediate before.edition 0) (leads_within (length words) 0) (or_left (0 == 0) (is_address (is_below (length words)) 0) refl)
  ]

  tidy-weak : HasWeak found tidy
  tidy-weak k d lt f e few_weak =
      let m = get_or before.marks k d in
      let same : mark k ≡ m = get_or_default before.marks k 0 d lt in
      let header : header_at before.edition tidy m ≡ header_at before.edition words (mark k) =
      ap (header_at before.edition tidy) (sym same) ∙ header-same k lt in
      let refs = refs_of (header_at before.edition tidy m) in
      let weak = weak_of (header_at before.edition tidy m) in
      let behind = drop (m + 1 + refs) tidy in
      let few : f < weak = omega (arith, few_weak, length-take weak behind) in
      let n = 1 + refs_of (header_at before.edition words (mark k)) + f in
      let low = ap refs_of header in
      let many = ap weak_of header in
      let size : n < size_at k = omega (arith, now-size k lt, few, many) in
      let place : mark k + n ≡ m + 1 + refs + f = omega (arith, same, low) in
      let read : get_or tidy (mark k + n) 0 ≡ get_or (take weak behind) f e =
      ap (λ (j : ℕ). get_or tidy j 0) place ∙ sym (get_or-drop (m + 1 + refs) tidy f 0) ∙ sym (get_or-take weak behind f 0 few) ∙ get_or_default (take weak behind) f 0 e few_weak in
      let value : is_within before.edition (length words) (get_or tidy (mark k + n) 0) ≡ true =
      ap (is_within before.edition (length words)) (weak-word k n lt size (omega arith) (omega (arith, few, many))) ∙ calm (get_or words (mark k + n) 0) in
      ap (λ (w : ℕ). is_within before.edition (length tidy) w) (sym read) ∙ ap (λ (c : ℕ). is_within before.edition c (get_or tidy (mark k + n) 0)) long ∙ value

  -- what each word leads to is the same
  led-same : (k f : ℕ) → k < length before.marks → f < size_at k → refs_of (header_at before.edition words (mark k)) < f
      → f ≤ refs_of (header_at before.edition words (mark k)) + weak_of (header_at before.edition words (mark k))
      → led_by found (get_or tidy (mark k + f) 0) ≡ led_by found (get_or words (mark k + f) 0)
  led-same k f lt few above below =
      let word = get_or words (mark k + f) 0 in
      ap (led_by found) (weak-word k f lt few above below) ∙ elim (cases_Bool (is_within before.edition (length words) word)) [
        | inl within ↦ ap (λ (b : Bool). led_by found (cond (not b) 0 word)) within
        | inr wild ↦
            let marks_in : (k : ℕ) → k < length before.marks → mark k < length before.words = λ k lt. (let placed = sound.placed k 0 lt in omega (arith, placed.within)) in
            let wild_there : is_within before.edition (length before.words) word ≡ false = ap (λ (c : ℕ). is_within before.edition c word) (sym count) ∙ wild in
            ap (λ (b : Bool). led_by found (cond (not b) 0 word)) wild ∙ led-null found ∙ sym (led-wild found word marks_in wild_there)
      ]

  placed-now : (k : ℕ) → k < length before.marks → IsPlaced before.edition words (mark k)
  placed-now k lt = (let placed = sound.placed k 0 lt in record { within = omega (arith, now-size k lt, placed.within, count); short = omega (arith, now-size k lt, placed.short) })

  placed-tidy : (k : ℕ) → k < length before.marks → IsPlaced before.edition tidy (mark k)
  placed-tidy k lt =
      let placed = placed-now k lt in
      let size = ap size_of (header-same k lt) in
      record { within = omega (arith, size, placed.within, long); short = omega (arith, size, placed.short) }

  word-same : (k f : ℕ) → k < length before.marks → f < size_at k
      → get_or (led_words (led_by found) (object_at before.edition tidy (mark k))) f 0 ≡ get_or (led_words (led_by found) (object_at before.edition words (mark k))) f 0
  word-same k f lt few =
      let e = before.edition in
      let g = led_by found in
      let m = mark k in
      let refs = refs_of (header_at e words m) in
      let weak = weak_of (header_at e words m) in
      let refs_same = ap refs_of (header-same k lt) in
      let weak_same = ap weak_of (header-same k lt) in
      let size_same = ap size_of (header-same k lt) in
      elim (cases_eq f 0) [
        | inl first ↦
            ap (λ (n : ℕ). get_or (led_words g (object_at e tidy m)) n 0) first ∙ led-header g e tidy m ∙ header-stays k lt
            ∙ sym (ap (λ (n : ℕ). get_or (led_words g (object_at e words m)) n 0) first ∙ led-header g e words m)
        | inr later ↦ elim (cases_lt (refs + weak) f) [
          | inl data_word ↦
              led-data g e tidy m f (placed-tidy k lt) (omega (arith, refs_same, weak_same, data_word)) (omega (arith, size_same, now-size k lt, few))
              ∙ high-stays k f lt few data_word
              ∙ sym (led-data g e words m f (placed-now k lt) (omega (arith, data_word)) (omega (arith, now-size k lt, few)))
          | inr field ↦
              let same : g (get_or tidy (m + f) 0) ≡ g (get_or words (m + f) 0) = elim (cases_lt refs f) [
                | inl weak_word ↦ led-same k f lt few weak_word field
                | inr reference ↦ ap g (low-stays k f lt few reference)
              ] in
              led-refers g e tidy m f (placed-tidy k lt) (omega (arith, later)) (omega (arith, refs_same, weak_same, field))
              ∙ same
              ∙ sym (led-refers g e words m f (placed-now k lt) (omega (arith, later)) field)
        ]
      ]

  -- so the same slides
  tidy-words : words_now found tidy ≡ words_now found words
  tidy-words =
      let indices = live_indices (live before) in
      same_number_lists (words_now found tidy) (words_now found words) (length-map indices (word_now found tidy) ∙ sym (length-map indices (word_now found words))) (λ n lt.
      let at = covered (live before) n (omega (arith, lt, length-map indices (word_now found tidy), length-live (live before))) in
      let k = at.0 in
      let known : k < length before.marks = omega (arith, at.1.known, length-map before.marks (object_at before.edition before.words)) in
      let f = n - starts k in
      let few : f < size_at k = omega (arith, at.1.begun, at.1.ends, starts-next before sound room k known) in
      let index : starts k + f ≡ n = omega (arith, at.1.begun) in
      ap (λ (m : ℕ). get_or (words_now found tidy) m 0) (sym index)
      ∙ word-is before sound room tidy k f known few
      ∙ word-same k f known few
      ∙ sym (word-is before sound room words k f known few)
      ∙ ap (λ (m : ℕ). get_or (words_now found words) m 0) index)

  tidy-sound : (roots : List ℕ) → length roots ≤ most_roots before.edition → All (IsValue before.edition before.marks) roots → IsFoundOf found (heap_now found tidy roots)
  tidy-sound roots few_roots roots_lead = still-found before sound room tidy (long ∙ count) tidy-found roots few_roots roots_lead tidy-weak

pub slid-tidied : (found : Found) (before : Heap) (words roots : List ℕ) → IsFoundOf found before → HasSlid found words roots
    → IsFoundOf found (heap_now found (tidied found words) roots) × (words_now found (tidied found words) ≡ words_now found words)
slid-tidied found before words roots of =
    subst (λ (f : Found). HasSlid f words roots → IsFoundOf f (heap_now f (tidied f words) roots) × (words_now f (tidied f words) ≡ words_now f words)) (found-is found before of)
    (λ slid. (
      tidy-sound before of.sound found.room words slid.count slid.as_found roots slid.few_roots slid.roots_lead,
      tidy-words before of.sound found.room words slid.count slid.as_found,
    ))
