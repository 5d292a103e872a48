-- What a collection leaves is an accepted heap, and all its objects are reached.
use Rattle.std.proofs.Common.{◌≡◌, ℕ, zero, suc, ◌+◌, ◌-◌, ◌^◌, ◌<◌, ◌≤◌, ◌==◌, ◌||◌, Bool, true, false, cond, Option, Some, List, [], ◌∷◌, ◌++◌, All, Contains, length, get_or, take, drop, map, inl, inr, refl, sym, ap, subst, ◌∙◌, arith, length-take, length-drop}
use Rattle.std.specs.Prelude.{unwrap_or}
use Rattle.std.specs.Option.{option_map}
use Rattle.std.proofs.Common.{length-append}
use Rattle.std.specs.List.{flat_map, list_any, range_with_len}
use Rattle.std.specs.List.Sorted.{IsStrictlyIncreasing}
use Rattle.std.proofs.lemmas.Bool.{cases_Bool, cases_eq, le-leb, eq-eqb, ne_eqb, or_right}
use Rattle.std.proofs.lemmas.Grind.{same_number_lists}
use Rattle.std.proofs.lemmas.List.{length-map, get_or-take, get_or-drop, drop_at, get_or-map as read_map}
use Rattle.std.proofs.lemmas.List.FromFn.{length-range_with_len, get_or-map-range_with_len}
use Rattle.std.proofs.lemmas.List.Sums.{sum_by-take-le}
use Rattle.heap_layout.specs.declared.edition.Edition.{Edition}
use Rattle.heap_layout.specs.declared.kind.Kind.TheVariants.{Reference, Weak}
use Rattle.heap_layout.specs.Header.{refs_of, weak_of, size_of, header_of}
use Rattle.heap_layout.specs.Limits.{most_words, most_object_words}
use Rattle.heap_layout.specs.Values.{is_immediate}
use Rattle.heap_layout.proofs.Bounds.{words_most}
use Rattle.heap_layout.proofs.Values.{value-immediate, value-target}
use Rattle.heap_layout.specs.Heap.{Heap, Object, header_at, object_at, live, from_address, starts, starts_from, is_start, is_target, is_value, IsPlaced, IsTarget, IsValue}
use Rattle.heap_layout.specs.Faults.{object_faults, mark_faults, root_faults, target_faults, weak_faults, IsAccepted}
use Rattle.heap_layout.proofs.Marked.{closed}
use Rattle.heap_layout.proofs.Rows.{starts_from-covered}
use Rattle.page_plan.specs.Sliding.{size, live_words, forward, new_address, number_of}
use Rattle.page_plan.proofs.Covering.{live_words-cons}
use Rattle.mark_tables.specs.LiveWords.{live_below, live_indices}
use Rattle.page_plan.proofs.Marks.{has-address}
use Rattle.rest_marks.proofs.BitsBelow.{mark-new_index, leads as target-leads, live_fit, live_words-part}
use Rattle.page_plan.proofs.NewAddresses.{forward-none}
use Rattle.page_plan.proofs.Objects.{live_words-next}
use Rattle.reachability.specs.Queue.{has}
use Rattle.rest_marks.specs.Reached.{IsReachedFrom, by_root, by_reference, AreReached, IsSound}
use Rattle.reachability.proofs.Least.{sizes-none, roots-none, fields-none, target-marked}
use Rattle.std.proofs.lemmas.List.Elements.{All-contains}
use Rattle.reachability.proofs.Queues.{place-of, has-at}
use Rattle.reachability.proofs.Rising.{contains-had, has-contained, rises, rises-short, rises-marked}
use Rattle.rest_slide.proofs.Targets.{value-back}
use Rattle.rest_slide.specs.Settled.{lowered, settled_word, settled, settled_words, places, collected}
use Rattle.rest_marks.proofs.Heads.{any-at}
use Rattle.rest_slide.proofs.Settling.{settled-length, settled-header, settled-refers, settled-at, settled-all, is-plain, lowered-plain, settled-immediate, settled-plain, settled-null, settled-lost}

-- ---- rows of objects

-- where objects with these marks start, side by side from index i on
abbrev offsets : Edition → List ℕ → ℕ → List ℕ → List ℕ
offsets edition words i [] = []
offsets edition words i (m ∷ marks) = i ∷ offsets edition words (i + size_of (header_at edition words m)) marks

offsets-length : (edition : Edition) (words : List ℕ) (i : ℕ) (marks : List ℕ) → length (offsets edition words i marks) ≡ length marks
offsets-length edition words i [] = refl
offsets-length edition words i (m ∷ marks) = let rest = offsets-length edition words (i + size_of (header_at edition words m)) marks in omega (arith, rest)

offsets-at : (edition : Edition) (words : List ℕ) (i : ℕ) (marks : List ℕ) (k : ℕ) → k < length marks
    → get_or (offsets edition words i marks) k 0 ≡ i + live_words (take k (map (object_at edition words) marks))
offsets-at edition words i [] k lt = absurd (omega arith)
offsets-at edition words i (m ∷ marks) zero lt = omega arith
offsets-at edition words i (m ∷ marks) (suc k) lt =
    let rest = offsets-at edition words (i + size_of (header_at edition words m)) marks k (omega arith) in
    let first = live_words-cons (object_at edition words m) (take k (map (object_at edition words) marks)) in
    omega (arith, rest, first)

-- the settled words of objects are a row of objects
row-offsets : (edition : Edition) (objects : List Object) (words : List ℕ) (i : ℕ) (marks : List ℕ) → ((k : ℕ) → k < length marks → IsPlaced edition words (get_or marks k 0))
    → starts_from edition i 0 (flat_map (settled objects) (map (object_at edition words) marks)) ≡ offsets edition words i marks
row-offsets edition objects words i [] placed = refl
row-offsets edition objects words i (m ∷ marks) placed =
    let object = object_at edition words m in
    let own = size_of (header_at edition words m) in
    let rest = map (settled_word edition objects) object.references ++ map (settled_word edition objects) object.weak ++ object.data_words in
    let others = flat_map (settled objects) (map (object_at edition words) marks) in
    let long : length rest ≡ own - 1 = (let whole = settled-length edition objects words m (placed 0 (omega arith)) in omega (arith, whole)) in
    let next : (i + 1) + (own - 1) ≡ i + own = omega arith in
    let covered = starts_from-covered edition (i + 1) (own - 1) (rest ++ others) (omega (arith, long, length-append rest others)) in
    ap (λ (xs : List ℕ). i ∷ xs) (covered
    ∙ ap (λ (xs : List ℕ). starts_from edition ((i + 1) + (own - 1)) 0 xs) (drop_at rest others (own - 1) long)
    ∙ ap (λ (n : ℕ). starts_from edition n 0 others) next
    ∙ row-offsets edition objects words (i + own) marks (λ k lt. placed (suc k) (omega arith)))

-- a placed object has no fault
placed-faultless : (edition : Edition) (words : List ℕ) (i : ℕ) → IsPlaced edition words i → object_faults edition words i ≡ []
placed-faultless edition words i placed =
    rw (le-leb (size_of (header_at edition words i)) (most_object_words edition) placed.short, le-leb (i + size_of (header_at edition words i)) (length words) placed.within) refl

row-faultless : (edition : Edition) (words row : List ℕ) → ((k : ℕ) → k < length row → IsPlaced edition words (get_or row k 0)) → flat_map (object_faults edition words) row ≡ []
row-faultless edition words [] placed = refl
row-faultless edition words (i ∷ row) placed =
    rw (placed-faultless edition words i (placed 0 (omega arith))) (row-faultless edition words row (λ k lt. placed (suc k) (omega arith)))

-- there are no more marks than words
marks-few : (heap : Heap) → IsSound heap → length heap.marks ≤ length heap.words
marks-few heap is =
    let rising : IsStrictlyIncreasing heap.marks = λ k within. (let apart = is.apart k within in omega (arith, apart)) in
    let short = rises-short 0 (length heap.words) heap.marks (rises 0 heap.marks rising (λ some. omega arith)) (omega arith) (λ i there.
    let at = place-of heap.marks i there in
    let placed = is.placed at.0 0 at.1 in
    omega (arith, placed.within, at.2)) in
    omega (arith, short)

-- the index of a word is small
index-small : (edition : Edition) (words : List ℕ) (i : ℕ) → length words ≤ most_words edition → i < length words → i < 2 ^ 62
index-small edition words i few inside = omega (arith, few, inside, words_most edition)

-- what the roots reach is marked, if roots and references lead to marked objects
pub reached-marked : (heap : Heap) → length heap.words ≤ most_words heap.edition → All (IsValue heap.edition heap.marks) heap.roots
    → All (λ mark. All (IsValue heap.edition heap.marks) (object_at heap.edition heap.words mark).references) heap.marks
    → (i : ℕ) → IsReachedFrom heap.edition heap.words heap.roots i → has heap.marks i ≡ true
reached-marked heap few roots references i (by_root _ leads) =
    value-back heap.edition heap.marks i (index-small heap.edition heap.words i few leads.inside)
    (All-contains (IsValue heap.edition heap.marks) heap.roots (from_address i) roots leads.address)
reached-marked heap few roots references j (by_reference i _ reached leads) =
    let marked = contains-had heap.marks i (reached-marked heap few roots references i reached) in
    let values = All-contains (λ mark. All (IsValue heap.edition heap.marks) (object_at heap.edition heap.words mark).references) heap.marks i references marked in
    value-back heap.edition heap.marks j (index-small heap.edition heap.words j few leads.inside)
    (All-contains (IsValue heap.edition heap.marks) (object_at heap.edition heap.words i).references (from_address j) values leads.address)

module _ (heap : Heap) (is : IsSound heap) where
  abbrev objects : List Object
  objects = live heap

  abbrev mark : ℕ → ℕ
  mark k = get_or heap.marks k 0

  abbrev place : ℕ → ℕ
  place k = live_words (take k objects)

  abbrev words : List ℕ
  words = settled_words objects

  abbrev settle : ℕ → ℕ
  settle word = settled_word heap.edition objects word

  pub many : length (places heap) ≡ length heap.marks
  many = length-map (range_with_len 0 (length heap.marks)) (λ k. live_words (take k (live heap))) ∙ length-range_with_len 0 (length heap.marks)

  pub place-at : (k : ℕ) → k < length heap.marks → get_or (places heap) k 0 ≡ place k
  place-at k lt = get_or-map-range_with_len (λ n. live_words (take n (live heap))) 0 (length heap.marks) k k 0 lt (omega arith)

  -- the places are where the objects of the new words start
  row : starts heap.edition words ≡ places heap
  row =
      let offs = offsets heap.edition heap.words 0 heap.marks in
      let count = offsets-length heap.edition heap.words 0 heap.marks in
      row-offsets heap.edition objects heap.words 0 heap.marks (λ k lt. is.placed k 0 lt)
      ∙ same_number_lists offs (places heap) (count ∙ sym many) (λ k lt.
      let within : k < length heap.marks = omega (arith, lt, count) in
      offsets-at heap.edition heap.words 0 heap.marks k within ∙ omega (arith, place-at k within))

  -- the header of an object stands at its place
  pub header-there : (k : ℕ) → k < length heap.marks → header_at heap.edition words (place k) ≡ header_at heap.edition heap.words (mark k)
  header-there k lt =
      let first : place k + 0 ≡ place k = omega arith in
      ap (header_of heap.edition) (ap (λ (n : ℕ). get_or words n 0) (sym first)
      ∙ settled-at heap is k 0 lt (omega arith) ∙ settled-header heap.edition objects heap.words (mark k))

  pub placed-there : (k : ℕ) → k < length heap.marks → IsPlaced heap.edition words (place k)
  placed-there k lt =
      let sized = ap size_of (header-there k lt) in
      let own = live_words-next heap.edition heap.words heap.marks k lt in
      let part = sum_by-take-le size objects (k + 1) in
      let old = is.placed k 0 lt in
      record { within = omega (arith, sized, own, part, settled-all heap is); short = omega (arith, sized, old.short) }

  -- a word of an object that refers
  pub word-there : (k f : ℕ) → k < length heap.marks → 1 ≤ f → f ≤ refs_of (header_at heap.edition heap.words (mark k)) + weak_of (header_at heap.edition heap.words (mark k))
      → get_or words (place k + f) 0 ≡ settle (get_or heap.words (mark k + f) 0)
  word-there k f lt positive le =
      settled-at heap is k f lt (omega (arith, le)) ∙ settled-refers heap.edition objects heap.words (mark k) f (is.placed k 0 lt) positive le

  -- a place is small
  place-small : (k : ℕ) → 2 ^ 33 + place k < 2 ^ 63
  place-small k = omega (arith, live_words-part heap is k)

  -- a target becomes the address of a place
  target-there : (word : ℕ) → is_immediate heap.edition word ≡ false → IsTarget heap.marks word → IsTarget (places heap) (settle word)
  target-there word plain target = elim (cases_eq word 0) [
    | inl null ↦ subst (IsTarget (places heap)) (sym (ap settle null ∙ settled-null heap.edition objects)) refl
    | inr other ↦
        let any : list_any (λ m. from_address m == word) heap.marks ≡ true =
        sym (ap (λ (b : Bool). b || list_any (λ m. from_address m == word) heap.marks) (ne_eqb word 0 other)) ∙ target in
        let at = has-address heap.edition heap.words heap.marks word 0 any in
        let k = at.number in
        let zero_first : 0 + k ≡ k = omega arith in
        let to : forward objects word ≡ Some (new_address objects k) =
        ap (λ (b : Bool). cond b (Some 0) (option_map (new_address objects) (number_of objects word))) (ne_eqb word 0 other)
        ∙ ap (option_map (new_address objects)) at.found
        ∙ ap (λ (n : ℕ). Some (new_address objects n)) zero_first in
        let down : 2 ^ 33 + place k - 2 ^ 32 ≡ from_address (place k) = omega arith in
        let led : settle word ≡ from_address (place k) =
        settled-plain heap.edition objects word plain ∙ ap (λ (o : Option ℕ). lowered heap.edition (unwrap_or o 0)) to
        ∙ lowered-plain heap.edition (2 ^ 33 + place k) (place-small k) ∙ down in
        or_right (settle word == 0) (list_any (λ m. from_address m == settle word) (places heap))
        (any-at (λ m. from_address m == settle word) (places heap) k (omega (arith, at.known, many))
        (eq-eqb (from_address (get_or (places heap) k 0)) (settle word) (ap from_address (place-at k at.known) ∙ sym led)))
  ]

  -- an immediate stays, and any other word becomes null
  settled-value : (word : ℕ) → IsValue heap.edition (places heap) (settle word)
  settled-value word = elim (cases_Bool (is_immediate heap.edition word)) [
    | inl immediate ↦
        subst (IsValue heap.edition (places heap)) (sym (settled-immediate heap.edition objects word immediate))
        (value-immediate heap.edition (places heap) word immediate)
    | inr plain ↦ value-target heap.edition (places heap) (settle word) (elim (cases_Bool (is_target heap.marks word)) [
      | inl target ↦ target-there word plain target
      | inr fails ↦
          let null : settle word ≡ 0 = settled-lost heap.edition objects word plain (forward-none heap.edition heap.words heap.marks word fails) in
          subst (IsTarget (places heap)) (sym null) refl
    ])
  ]

  -- an element of a list of words that refer
  field-there : (k first count n : ℕ) → k < length heap.marks → n < count → 1 ≤ first
      → first + count ≤ 1 + refs_of (header_at heap.edition heap.words (mark k)) + weak_of (header_at heap.edition heap.words (mark k))
      → IsValue heap.edition (places heap) (get_or (take count (drop (place k + first) words)) n 0)
  field-there k first count n lt inside positive few =
      let at : place k + first + n ≡ place k + (first + n) = omega arith in
      let read : get_or (take count (drop (place k + first) words)) n 0 ≡ settle (get_or heap.words (mark k + (first + n)) 0) =
      get_or-take count (drop (place k + first) words) n 0 inside ∙ get_or-drop (place k + first) words n 0 ∙ ap (λ (m : ℕ). get_or words m 0) at
      ∙ word-there k (first + n) lt (omega (arith, positive)) (omega (arith, inside, few)) in
      subst (IsValue heap.edition (places heap)) (sym read) (settled-value (get_or heap.words (mark k + (first + n)) 0))

  -- a mark of the new heap is the place of an object
  number-there : (m : ℕ) → has (places heap) m ≡ true → (k : ℕ) × (k < length heap.marks) × (m ≡ place k)
  number-there m there =
      let at = place-of (places heap) m there in
      let lt : at.0 < length heap.marks = omega (arith, at.1, many) in
      (at.0, lt, sym at.2 ∙ place-at at.0 lt)

  place-has : (k : ℕ) → k < length heap.marks → has (places heap) (place k) ≡ true
  place-has k lt = subst (λ (m : ℕ). has (places heap) m ≡ true) (place-at k lt) (has-at (places heap) k (omega (arith, lt, many)))

  rising : IsStrictlyIncreasing (places heap)
  rising k within =
      let low : k < length heap.marks = omega (arith, within, many) in
      let next : k + 1 < length heap.marks = omega (arith, within, many) in
      let own = live_words-next heap.edition heap.words heap.marks k low in
      omega (arith, place-at k low, place-at (k + 1) next, own)

  start-there : (i : ℕ) → has (places heap) i ≡ true → is_start (starts heap.edition words) i ≡ true
  start-there i there =
      let at = place-of (places heap) i there in
      subst (λ (xs : List ℕ). is_start xs i ≡ true) (sym row) (any-at (λ start. start == i) (places heap) at.0 at.1 (eq-eqb (get_or (places heap) at.0 0) i at.2))

  pub collected-accepted : IsAccepted (collected heap)
  collected-accepted =
      let edition = heap.edition in
      let fit = live_fit heap is in
      let long = settled-all heap is in
      let roots_long = length-map heap.roots settle in
      let sizes = sizes-none edition (length words) (length (places heap)) (length (map settle heap.roots))
      (omega (arith, fit, long, is.few_words)) (omega (arith, many, marks-few heap is, is.few_words)) (omega (arith, roots_long, is.few_roots)) in
      let sound : flat_map (object_faults edition words) (starts edition words) ≡ [] =
      subst (λ (xs : List ℕ). flat_map (object_faults edition words) xs ≡ []) (sym row)
      (row-faultless edition words (places heap) (λ k lt.
      let within : k < length heap.marks = omega (arith, lt, many) in
      subst (IsPlaced edition words) (sym (place-at k within)) (placed-there k within))) in
      let marks : mark_faults (starts edition words) 0 (places heap) ≡ [] =
      rises-marked (starts edition words) 0 (places heap) (rises 0 (places heap) rising (λ some. omega arith)) start-there in
      let of_roots : root_faults edition (places heap) (map settle heap.roots) ≡ [] =
      roots-none (is_value edition (places heap)) 0 (map settle heap.roots) (λ root among.
      let at = place-of (map settle heap.roots) root among in
      let within : at.0 < length heap.roots = omega (arith, at.1, roots_long) in
      subst (IsValue heap.edition (places heap)) (sym (read_map settle heap.roots at.0 0 0 within) ∙ at.2) (settled-value (get_or heap.roots at.0 0))) in
      let targets : target_faults edition words (places heap) (places heap) ≡ [] =
      fields-none Reference edition (is_value edition (places heap)) words (places heap) (λ m word marked among.
      let number = number-there m marked in
      let k = number.0 in
      let head = header-there k number.1 in
      let refs = refs_of (header_at edition words (place k)) in
      let here : has (take refs (drop (place k + 1) words)) word ≡ true = subst (λ (n : ℕ). has (object_at edition words n).references word ≡ true) number.2 among in
      let at = place-of (take refs (drop (place k + 1) words)) word here in
      let inside : at.0 < refs = omega (arith, at.1, length-take refs (drop (place k + 1) words)) in
      subst (IsValue heap.edition (places heap)) at.2 (field-there k 1 refs at.0 number.1 inside (omega arith) (omega (arith, ap refs_of head)))) in
      let weak : weak_faults edition words (places heap) ≡ [] =
      fields-none Weak edition (is_value edition (starts edition words)) words (places heap) (λ m word marked among.
      let number = number-there m marked in
      let k = number.0 in
      let head = header-there k number.1 in
      let refs = refs_of (header_at edition words (place k)) in
      let weak_count = weak_of (header_at edition words (place k)) in
      let at_first : place k + 1 + refs ≡ place k + (1 + refs) = omega arith in
      let here : has (take weak_count (drop (place k + (1 + refs)) words)) word ≡ true =
      subst (λ (n : ℕ). has (take weak_count (drop n words)) word ≡ true) at_first (subst (λ (n : ℕ). has (object_at edition words n).weak word ≡ true) number.2 among) in
      let at = place-of (take weak_count (drop (place k + (1 + refs)) words)) word here in
      let inside : at.0 < weak_count = omega (arith, at.1, length-take weak_count (drop (place k + (1 + refs)) words)) in
      ap (λ (xs : List ℕ). is_value edition xs word) row
      ∙ subst (IsValue heap.edition (places heap)) at.2 (field-there k (1 + refs) weak_count at.0 number.1 inside (omega arith) (omega (arith, ap refs_of head, ap weak_of head)))) in
      rw (sizes, sound, marks, of_roots, targets, weak) refl

  -- ---- what is reached

  -- the address of an object becomes that of its place
  pub address-there : (k : ℕ) → k < length heap.marks → settle (from_address (mark k)) ≡ from_address (place k)
  address-there k lt =
      let word = from_address (mark k) in
      let below = live_below (live_indices objects) (word - 2 ^ 32) in
      let index : word - 2 ^ 32 ≡ mark k = omega arith in
      let to = (target-leads heap is word (target-marked heap.marks (mark k) (has-at heap.marks k lt)) (λ null. omega (arith, null)) (live_indices objects) refl below refl).to in
      let counted : below ≡ place k = mark-new_index heap is k lt (live_indices objects) refl (word - 2 ^ 32) index in
      let small : 2 ^ 33 + below < 2 ^ 63 = omega (arith, counted, place-small k) in
      let down : 2 ^ 33 + below - 2 ^ 32 ≡ from_address (place k) = omega (arith, counted) in
      let placed = is.placed k 0 lt in
      let plain : is_immediate heap.edition word ≡ false =
      is-plain heap.edition word (omega (arith, placed.within, is.few_words, words_most heap.edition)) in
      settled-plain heap.edition objects word plain ∙ ap (λ (o : Option ℕ). lowered heap.edition (unwrap_or o 0)) to
      ∙ lowered-plain heap.edition (2 ^ 33 + below) small ∙ down

  contains-there : (from to : List ℕ) → ((n : ℕ) → n < length from → (n < length to) × (get_or to n 0 ≡ settle (get_or from n 0)))
      → (k : ℕ) → k < length heap.marks → Contains from (from_address (mark k)) → Contains to (from_address (place k))
  contains-there from to each k lt there =
      let at = place-of from (from_address (mark k)) (has-contained from (from_address (mark k)) there) in
      let other = each at.0 at.1 in
      let same : get_or to at.0 0 ≡ from_address (place k) = other.1 ∙ ap settle at.2 ∙ address-there k lt in
      contains-had to (from_address (place k)) (subst (λ (x : ℕ). has to x ≡ true) same (has-at to at.0 other.0))

  -- the references of an object after the collection
  references-there : (k : ℕ) → k < length heap.marks → (n : ℕ) → n < length (object_at heap.edition heap.words (mark k)).references
      → (n < length (object_at heap.edition words (place k)).references)
      × (get_or (object_at heap.edition words (place k)).references n 0 ≡ settle (get_or (object_at heap.edition heap.words (mark k)).references n 0))
  references-there k lt n inside =
      let old_refs = refs_of (header_at heap.edition heap.words (mark k)) in
      let refs = refs_of (header_at heap.edition words (place k)) in
      let same = ap refs_of (header-there k lt) in
      let old = is.placed k 0 lt in
      let new = placed-there k lt in
      let old_long : length (take old_refs (drop (mark k + 1) heap.words)) ≡ old_refs = simp (length-take, length-drop) (omega (arith, old.within)) in
      let long : length (take refs (drop (place k + 1) words)) ≡ refs = simp (length-take, length-drop) (omega (arith, new.within)) in
      let within : n < old_refs = omega (arith, inside, old_long) in
      let at : place k + 1 + n ≡ place k + (1 + n) = omega arith in
      let old_at : mark k + (1 + n) ≡ mark k + 1 + n = omega arith in
      let read : get_or (take refs (drop (place k + 1) words)) n 0 ≡ settle (get_or (take old_refs (drop (mark k + 1) heap.words)) n 0) =
      get_or-take refs (drop (place k + 1) words) n 0 (omega (arith, within, same)) ∙ get_or-drop (place k + 1) words n 0 ∙ ap (λ (m : ℕ). get_or words m 0) at
      ∙ word-there k (1 + n) lt (omega arith) (omega (arith, within))
      ∙ ap settle (ap (λ (m : ℕ). get_or heap.words m 0) old_at
      ∙ sym (get_or-take old_refs (drop (mark k + 1) heap.words) n 0 within ∙ get_or-drop (mark k + 1) heap.words n 0)) in
      (omega (arith, within, same, long), read)

  -- what was reached is reached
  reach-there : AreReached heap.edition heap.words heap.roots heap.marks → (m : ℕ) → IsReachedFrom heap.edition heap.words heap.roots m → (k : ℕ) → k < length heap.marks → mark k ≡ m
      → IsReachedFrom heap.edition words (map settle heap.roots) (place k)
  reach-there are m (by_root _ leads) k lt at =
      let long = length-map heap.roots settle in
      by_root (place k) (record {
        inside = let at = placed-there k lt in omega (arith, at.within);
        address = contains-there heap.roots (map settle heap.roots)
            (λ n inside. (omega (arith, inside, long), read_map settle heap.roots n 0 0 inside)) k lt
            (subst (λ (i : ℕ). Contains heap.roots (from_address i)) (sym at) leads.address);
      })
  reach-there are m (by_reference i _ reached leads) k lt at =
      let of = place-of heap.marks i (has-contained heap.marks i (are.all i reached)) in
      let from : Contains (object_at heap.edition heap.words (mark of.0)).references (from_address (mark k)) =
      subst (λ (j : ℕ). Contains (object_at heap.edition heap.words j).references (from_address (mark k))) (sym of.2)
      (subst (λ (j : ℕ). Contains (object_at heap.edition heap.words i).references (from_address j)) (sym at) leads.address) in
      by_reference (place of.0) (place k) (reach-there are i reached of.0 of.1 of.2) (record {
        inside = let at = placed-there k lt in omega (arith, at.within);
        address = contains-there (object_at heap.edition heap.words (mark of.0)).references (object_at heap.edition words (place of.0)).references
            (references-there of.0 of.1) k lt from;
      })

  pub collected-reached : AreReached heap.edition heap.words heap.roots heap.marks → AreReached heap.edition words (map settle heap.roots) (places heap)
  collected-reached are = record {
    rising = rising;
    reached = λ i there.
        let number = number-there i (has-contained (places heap) i there) in
        let k = number.0 in
        let reached = are.reached (mark k) (contains-had heap.marks (mark k) (has-at heap.marks k number.1)) in
        subst (IsReachedFrom heap.edition words (map settle heap.roots)) (sym number.2) (reach-there are (mark k) reached k number.1 refl);
    all = λ i reached. contains-had (places heap) i (
        let new = closed (collected heap) collected-accepted in
        reached-marked (collected heap) new.few_words new.roots new.references i reached);
  }
