-- Why a lawful heap is the same heap in object numbers.
use Rattle.std.proofs.Common.{◌≡◌, ℕ, ◌+◌, ◌<◌, ◌≤◌, ◌≢◌, List, length, get_or, map, zip, refl, sym, ap, subst, ◌∙◌, ⊎_elim, arith, Bool, cond, true, false, []}
use Rattle.std.proofs.Math.Path.{fun_ext}
use Rattle.std.specs.List.{All, Contains}
use Rattle.std.specs.List.Sorted.{IsPermutation}
use Rattle.std.proofs.lemmas.Bool.{cases_lt, cases_Bool, cases_eq, or_right, both_ways}
use Rattle.std.proofs.lemmas.Grind.{same_number_lists}
use Rattle.std.proofs.lemmas.List.{length-map, get_or-map, get_or_default}
use Rattle.std.proofs.lemmas.List.Sorted.{All-permutation, Contains-permutation, IsPermutation-sym}
use Rattle.std.proofs.lemmas.Slice.Zip.{get_or-zip, length-zip}
use Rattle.heap_layout.specs.Header.{Head, size_of, header_of}
use Rattle.heap_layout.specs.Heap.{Heap, from_address, header_at, object_at, live, IsClosed, IsPlaced, is_target}
use Rattle.heap_layout.specs.Limits.{most_object_words}
use Rattle.heap_layout.specs.declared.edition.Edition.{Edition}
use Rattle.page_plan.specs.Sliding.{to_address}
use Rattle.page_plan.proofs.Objects.{live-at}
use Rattle.comp_cycles.proofs.Living.{numbered_reference, numbered_other}
use Rattle.comp_cycles.proofs.Living as living
use Rattle.comp_history.specs.Lists.{look}
use Rattle.heap_layout.specs.Values.{is_immediate}
use Rattle.comp_cycles.proofs.ObjectWords.{words_by}
use Rattle.comp_cycles.specs.NumberedHeaps.{Names, names_in, number_at, numbered_object, numbered_word, pointers_of, IsNumberedAs}
use Rattle.comp_cycles.specs.Stable.{StableHeap}
use Rattle.comp_cycles.proofs.Targets.{named_mark, object_long, object_word}
use Rattle.comp_cycles.proofs.Targets as targets
use Rattle.moved_heaps.proofs.Finding.{led-marked, led-unmarked}
use Rattle.moved_heaps.proofs.Objects.{after-led, after-kept, pointers_at}
use Rattle.moved_heaps.proofs.Ordering.{numbers_differ}
use Rattle.moved_heaps.specs.Moved.{Moved, IsLawful, led, led_value, place, size_at}
use Rattle.moved_heaps.specs.MovedNumbers.{listed_by, names_at, pairs_at, numbers_in, IsLow, IsNumberedAt}
use Rattle.moved_heaps.specs.Ordered.{pair_at}
use Rattle.moved_heaps.proofs.Naming.{named, unnamed, sought, IsFirstAt}

module _ (heap : Heap) (moved : Moved) (numbers : List ℕ) (stable : StableHeap) (closed : IsClosed heap) (lawful : IsLawful heap moved) (is : IsNumberedAs heap numbers stable)
    (far : IsLow moved) where
  abbrev row : List (ℕ × ℕ)
  row = zip moved.places numbers

  -- there is a number for each marked object
  as_many : length numbers ≡ length heap.marks
  as_many = sym (length-map numbers stable.words) ∙ ap length is.words ∙ length-map (live heap) (numbered_object (names_in heap numbers)) ∙ length-map heap.marks (object_at heap.edition heap.words)

  row_long : length row ≡ length heap.marks
  row_long = let long = length-zip moved.places numbers in omega (arith, long, as_many, lawful.head.places)

  pair_is : (k : ℕ) → k < length heap.marks → pair_at row k ≡ (place moved k, get_or numbers k 0)
  pair_is k lt = get_or-zip moved.places numbers k (0, 0) (omega (arith, lt, lawful.head.places)) (omega (arith, lt, as_many))

  -- ---- where words lead

  -- no two objects have one place
  one_place : (k l : ℕ) → k < length heap.marks → l < length heap.marks → place moved k ≡ place moved l → k ≡ l
  one_place k l ltk ltl e = ⊎_elim
      (λ (same : k ≡ l). same)
      (λ (other : k ≢ l). ⊎_elim
      (λ (le : place moved k + size_at heap k ≤ place moved l). absurd (omega (arith, le, e)))
      (λ (ge : place moved l + size_at heap l ≤ place moved k). absurd (omega (arith, ge, e)))
      (lawful.apart k l ltk ltl other))
      (cases_eq k l)

  abbrev there_names : Names
  there_names = names_at moved.edition row

  -- no new address is an immediate
  low_place : (l : ℕ) → l < length heap.marks → is_immediate moved.edition (to_address (place moved l)) ≡ false
  low_place l lt = far (to_address (place moved l)) (let inside = lawful.inside l lt in omega (arith, inside))

  -- the number at a new place
  look_place : (l : ℕ) → l < length heap.marks → look 0 (pairs_at row) (to_address (place moved l)) ≡ get_or numbers l 0
  look_place l lt =
      named row l (to_address (place moved l)) (omega (arith, lt, row_long)) (ap (λ (x : ℕ × ℕ). to_address x.0) (pair_is l lt))
      (λ i below e.
      let here = ap (λ (x : ℕ × ℕ). x.0) (pair_is i (omega (arith, below, lt))) in
      let same = one_place i l (omega (arith, below, lt)) lt (omega (arith, e, here)) in omega (arith, below, same))
      ∙ ap (λ (x : ℕ × ℕ). x.1) (pair_is l lt)

  named_place : (l : ℕ) → l < length heap.marks → number_at there_names (to_address (place moved l)) ≡ get_or numbers l 0
  named_place l lt = living.number_is there_names (to_address (place moved l)) (low_place l lt) ∙ look_place l lt

  named_null : number_at there_names 0 ≡ 0
  named_null = living.number_is there_names 0 (far 0 (omega arith)) ∙ unnamed row 0 (λ i lt e. omega (arith, e))

  -- a word that is no immediate, and what it becomes, have one number
  led_other : (w : ℕ) → is_immediate heap.edition w ≡ false → number_at there_names (led (live heap) moved.places w) ≡ number_at (names_in heap numbers) w
  led_other w other = ⊎_elim
      (λ (is_one : is_target heap.marks w ≡ true). ⊎_elim
      (λ (null : w ≡ 0).
      ap (number_at there_names) (led-unmarked heap moved.places w (λ i lt e. omega (arith, e, null))) ∙ named_null
      ∙ sym (ap (number_at (names_in heap numbers)) null ∙ targets.named_null heap closed numbers))
      (λ (found : (l : ℕ) × (l < length heap.marks) × (from_address (get_or heap.marks l 0) ≡ w)).
      let (l, lt, at) = found in
      ap (λ (a : ℕ). number_at there_names (led (live heap) moved.places a)) (sym at)
      ∙ ap (number_at there_names) (led-marked heap closed moved.places l lt)
      ∙ named_place l lt
      ∙ sym (ap (number_at (names_in heap numbers)) (sym at) ∙ named_mark heap closed numbers l as_many lt))
      (targets.target_cases heap.marks w is_one))
      (λ (is_none : is_target heap.marks w ≡ false).
      ap (number_at there_names) (led-unmarked heap moved.places w (λ i lt e. both_ways (is_target heap.marks w) is_none (or_right _ _ (targets.target_mark heap.marks w i lt e))))
      ∙ named_null ∙ sym (targets.named_none heap closed numbers w other is_none))
      (cases_Bool (is_target heap.marks w))

  -- a word, and what it becomes, have one number; an immediate stays one
  led_named : (w : ℕ) → number_at there_names (led_value heap.edition (live heap) moved.places w) ≡ number_at (names_in heap numbers) w
  led_named w = ⊎_elim
      (λ (immediate : is_immediate heap.edition w ≡ true).
      ap (λ (b : Bool). number_at there_names (cond b w (led (live heap) moved.places w))) immediate
      ∙ living.number_immediate there_names w (ap (λ (e : Edition). is_immediate e w) lawful.head.edition ∙ immediate)
      ∙ sym (living.number_immediate (names_in heap numbers) w immediate))
      (λ (other : is_immediate heap.edition w ≡ false).
      ap (λ (b : Bool). number_at there_names (cond b w (led (live heap) moved.places w))) other ∙ led_other w other)
      (cases_Bool (is_immediate heap.edition w))

  -- ---- the objects

  module _ (k : ℕ) (lt : k < length heap.marks) where
    header_is : header_at moved.edition moved.words (place moved k) ≡ header_at heap.edition heap.words (get_or heap.marks k 0)
    header_is =
        ap (λ (e : Edition). header_of e (get_or moved.words (place moved k) 0)) lawful.head.edition
        ∙ ap (header_of heap.edition) (ap (λ (i : ℕ). get_or moved.words i 0) (let z : place moved k ≡ place moved k + 0 = omega arith in z) ∙ lawful.whole k lt 0 (omega arith))

    size_is : size_of (header_at moved.edition moved.words (place moved k)) ≡ size_at heap k
    size_is = ap size_of header_is

    placed_there : IsPlaced moved.edition moved.words (place moved k)
    placed_there = record {
      within = omega (arith, lawful.inside k lt, size_is);
      short =
          let bound = ap most_object_words lawful.head.edition in
          omega (arith, (closed.placed k 0 lt).short, size_is, bound);
    }

    -- a word of the object, in object numbers
    word_is : (j : ℕ) → j < size_at heap k
        → numbered_word there_names (pointers_at heap k) j (get_or moved.words (place moved k + j) 0) ≡ numbered_word (names_in heap numbers) (pointers_at heap k) j (get_or heap.words (get_or heap.marks k 0 + j) 0)
    word_is j inside = ⊎_elim
        (λ (first : j < 1). stays (λ low. absurd (omega (arith, first, low))))
        (λ (low : 1 ≤ j). ⊎_elim
        (λ (past : pointers_at heap k < j). stays (λ _. past))
        (λ (within : j ≤ pointers_at heap k).
        numbered_reference there_names (pointers_at heap k) j (get_or moved.words (place moved k + j) 0) low within
        ∙ ap (number_at there_names) (lawful.whole k lt j inside ∙ after-led heap closed moved.places k j lt low within)
        ∙ led_named (get_or heap.words (get_or heap.marks k 0 + j) 0)
        ∙ sym (numbered_reference (names_in heap numbers) (pointers_at heap k) j (get_or heap.words (get_or heap.marks k 0 + j) 0) low within))
        (cases_lt (pointers_at heap k) j))
        (cases_lt j 1)
      where
        stays : (1 ≤ j → pointers_at heap k < j)
            → numbered_word there_names (pointers_at heap k) j (get_or moved.words (place moved k + j) 0) ≡ numbered_word (names_in heap numbers) (pointers_at heap k) j (get_or heap.words (get_or heap.marks k 0 + j) 0)
        stays behind =
            numbered_other there_names (pointers_at heap k) j (get_or moved.words (place moved k + j) 0) behind
            ∙ lawful.whole k lt j inside ∙ after-kept heap closed moved.places k j lt behind inside
            ∙ sym (numbered_other (names_in heap numbers) (pointers_at heap k) j (get_or heap.words (get_or heap.marks k 0 + j) 0) behind)

    -- the object is the same in object numbers
    same_object : numbered_object there_names (object_at moved.edition moved.words (place moved k)) ≡ numbered_object (names_in heap numbers) (object_at heap.edition heap.words (get_or heap.marks k 0))
    same_object =
        let there = object_long there_names moved.edition moved.words (place moved k) placed_there in
        let here = object_long (names_in heap numbers) heap.edition heap.words (get_or heap.marks k 0) (closed.placed k 0 lt) in
        same_number_lists _ _ (there ∙ size_is ∙ sym here)
        (λ j inside.
        let short : j < size_at heap k = omega (arith, inside, there, size_is) in
        object_word there_names moved.edition moved.words (place moved k) j placed_there (omega (arith, short, size_is))
        ∙ ap (λ (h : Head). numbered_word there_names (pointers_of h) j (get_or moved.words (place moved k + j) 0)) header_is
        ∙ word_is j short
        ∙ sym (object_word (names_in heap numbers) heap.edition heap.words (get_or heap.marks k 0) j (closed.placed k 0 lt) short))

    words_given : stable.words (get_or numbers k 0) ≡ numbered_object (names_in heap numbers) (object_at heap.edition heap.words (get_or heap.marks k 0))
    words_given =
        sym (get_or-map stable.words numbers k 0 [] (omega (arith, lt, as_many)))
        ∙ ap (λ (xs : List (List ℕ)). get_or xs k []) is.words
        ∙ get_or-map (numbered_object (names_in heap numbers)) (live heap) k (object_at heap.edition heap.words 0) [] (omega (arith, lt, length-map heap.marks (object_at heap.edition heap.words)))
        ∙ ap (numbered_object (names_in heap numbers)) (live-at heap.edition heap.words heap.marks k)

  -- ---- in the order of the marks

  abbrev HasWords : Names → ℕ × ℕ → Type 0
  HasWords names x = stable.words x.1 ≡ numbered_object names (object_at moved.edition moved.words x.0)

  abbrev IsGiven : ℕ × ℕ → Type 0
  IsGiven x = (1 ≤ x.1) × (x.1 ≤ stable.given)

  at_default : (d : ℕ × ℕ) (k : ℕ) → k < length row → get_or row k d ≡ (place moved k, get_or numbers k 0)
  at_default d k lt = get_or_default row k d (0, 0) lt ∙ pair_is k (omega (arith, lt, row_long))

  all_words : All (HasWords there_names) row
  all_words k d lt =
      let inside : k < length heap.marks = omega (arith, lt, row_long) in
      subst (HasWords there_names) (sym (at_default d k lt)) (words_given k inside ∙ sym (same_object k inside))

  all_given : All IsGiven row
  all_given k d lt = subst IsGiven (sym (at_default d k lt)) (is.given k (omega (arith, lt, row_long, as_many)))

  number_is : (k : ℕ) → k < length row → (pair_at row k).1 ≡ get_or numbers k 0
  number_is k lt = ap (λ (x : ℕ × ℕ). x.1) (pair_is k (omega (arith, lt, row_long)))

  all_once : (i j : ℕ) → i < length row → j < length row → (pair_at row i).1 ≡ (pair_at row j).1 → i ≡ j
  all_once i j lti ltj e = is.once i j (omega (arith, lti, row_long, as_many)) (omega (arith, ltj, row_long, as_many)) (sym (number_is i lti) ∙ e ∙ number_is j ltj)

  all_roots : map (number_at (names_in heap numbers)) heap.roots ≡ map (number_at there_names) moved.roots
  all_roots =
      let here = length-map heap.roots (number_at (names_in heap numbers)) in
      same_number_lists _ _ (here ∙ sym (length-map moved.roots (number_at there_names) ∙ lawful.head.roots))
      (λ i inside.
      let lt : i < length heap.roots = omega (arith, inside, here) in
      get_or-map (number_at (names_in heap numbers)) heap.roots i 0 0 lt
      ∙ sym (get_or-map (number_at there_names) moved.roots i 0 0 (omega (arith, lt, lawful.head.roots)) ∙ ap (number_at there_names) (lawful.roots i lt) ∙ led_named (get_or heap.roots i 0)))

  all_numbers : numbers ≡ numbers_in row
  all_numbers =
      let long = length-map row (λ (x : ℕ × ℕ). x.1) in
      same_number_lists _ _ (as_many ∙ sym (long ∙ row_long))
      (λ k inside.
      let lt : k < length row = omega (arith, inside, as_many, row_long) in
      sym (get_or-map (λ (x : ℕ × ℕ). x.1) row k (0, 0) 0 lt ∙ number_is k lt))

  pub in_order_of_marks : IsNumberedAt moved row stable
  in_order_of_marks = record {
    edition = is.edition ∙ sym lawful.head.edition;
    there = is.there ∙ all_numbers;
    words = all_words;
    roots = is.roots ∙ all_roots;
    given = all_given;
    once = all_once;
  }

  -- ---- in any order

  module _ (others : List (ℕ × ℕ)) (moves : IsPermutation row others) where
    back : IsPermutation others row
    back = IsPermutation-sym row others moves

    -- a pair of the one row is in the other
    met : (k : ℕ) → k < length others → (l : ℕ) × (l < length row) × (pair_at row l ≡ pair_at others k)
    met k lt =
        let x = pair_at others k in
        let first : Contains others x = (k, lt, get_or_default others k x (0, 0) lt) in
        let found = Contains-permutation others row x back first in
        (found.0, found.1, get_or_default row found.0 (0, 0) x found.1 ∙ found.2)

    met_back : (l : ℕ) → l < length row → (k : ℕ) × (k < length others) × (pair_at others k ≡ pair_at row l)
    met_back l lt =
        let x = pair_at row l in
        let first : Contains row x = (l, lt, get_or_default row l x (0, 0) lt) in
        let found = Contains-permutation row others x moves first in
        (found.0, found.1, get_or_default others found.0 (0, 0) x found.1 ∙ found.2)

    -- both rows have the same number for each address
    same_look : (a : ℕ) → look 0 (pairs_at others) a ≡ look 0 (pairs_at row) a
    same_look a = ⊎_elim
        (λ (found : (k : ℕ) × IsFirstAt others a k).
        let (k, first) = found in
        let (l, lt, same) = met k first.inside in
        let inside : l < length heap.marks = omega (arith, lt, row_long) in
        let at : to_address (place moved l) ≡ a = ap (λ (x : ℕ × ℕ). to_address x.0) (sym (pair_is l inside) ∙ same) ∙ first.here in
        named others k a first.inside first.here first.before
        ∙ ap (λ (x : ℕ × ℕ). x.1) (sym same ∙ pair_is l inside)
        ∙ sym (ap (look 0 (pairs_at row)) (sym at) ∙ look_place l inside))
        (λ (none : (i : ℕ) → i < length others → to_address (pair_at others i).0 ≡ a → ⊥).
        unnamed others a none
        ∙ sym (unnamed row a (λ i lt e. let (k, inside, same) = met_back i lt in none k inside (ap (λ (x : ℕ × ℕ). to_address x.0) same ∙ e))))
        (sought others a)

    same_names : (a : ℕ) → number_at (names_at moved.edition others) a ≡ number_at there_names a
    same_names a = ap (λ (n : ℕ). cond (is_immediate moved.edition a) a n) (same_look a)

    once_there : (i j : ℕ) → i < length others → j < length others → (pair_at others i).1 ≡ (pair_at others j).1 → i ≡ j
    once_there i j lti ltj e =
        let differ = numbers_differ row others moves (λ k l less inside q. let same = all_once k l (omega (arith, less, inside)) inside q in omega (arith, less, same)) in
        ⊎_elim
        (λ (below : i < j). absurd (differ i j below ltj e))
        (λ (le : j ≤ i). ⊎_elim
        (λ (above : j < i). absurd (differ j i above lti (sym e)))
        (λ (ge : i ≤ j). let z : i ≡ j = omega (arith, le, ge) in z)
        (cases_lt j i))
        (cases_lt i j)

    pub in_any_order : IsNumberedAt moved others (listed_by others stable)
    in_any_order = record {
      edition = is.edition ∙ sym lawful.head.edition;
      there = refl;
      words = subst (λ (g : ℕ → ℕ). All (λ (x : ℕ × ℕ). stable.words x.1 ≡ words_by g (object_at moved.edition moved.words x.0)) others) (sym (fun_ext same_names)) (All-permutation (HasWords there_names) row others moves all_words);
      roots = is.roots ∙ all_roots ∙ ap (λ (g : ℕ → ℕ). map g moved.roots) (sym (fun_ext same_names));
      given = All-permutation IsGiven row others moves all_given;
      once = once_there;
    }
