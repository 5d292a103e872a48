-- What a collection leaves that only moves objects is sound, and the same heap in object numbers.
use Rattle.std.proofs.Common.{◌≡◌, ◌&&◌, ℕ, ◌+◌, ◌-◌, ◌^◌, ◌<◌, ◌≤◌, ◌==◌, true, false, leb, List, [], All, length, get_or, take, drop, map, inl, inr, refl, sym, ap, subst, ◌∙◌, arith, length-take}
use Rattle.std.specs.List.{list_any}
use Rattle.std.proofs.lemmas.Bool.{cases_Bool, cases_lt, and_from, le-leb, lt-ltb, or_left, or_right}
use Rattle.std.proofs.lemmas.Grind.{same_number_lists}
use Rattle.std.proofs.lemmas.List.{length-map, ext_get_or, get_or-drop, get_or-take, get_or-map as read_map}
use Rattle.std.proofs.lemmas.List.Elements.{All-from_get_or}
use Rattle.heap_layout.specs.declared.edition.Edition.{Edition}
use Rattle.heap_layout.specs.Header.{Head, header_of, refs_of, weak_of, size_of}
use Rattle.heap_layout.specs.Heap.{Heap, header_at, object_at, live, from_address, IsPlaced, IsTarget, IsValue}
use Rattle.heap_layout.specs.Limits.{most_words}
use Rattle.heap_layout.specs.Values.{is_immediate}
use Rattle.heap_layout.proofs.Values.{value-immediate, value-target}
use Rattle.page_plan.proofs.Objects.{live-at}
use Rattle.comp_cycles.specs.NumberedHeaps.{Names, names_in, number_at, numbered_object, numbered_word, pointers_of, IsNumberedAs}
use Rattle.comp_cycles.specs.Stable.{StableHeap}
use Rattle.comp_cycles.proofs.Living.{number_immediate, numbered_reference, numbered_other}
use Rattle.comp_cycles.proofs.ObjectWords.{word-changed, word-stays}
use Rattle.comp_cycles.proofs.Targets.{object_long, object_word, target_mark}
use Rattle.rest_marks.specs.Places.{led_words}
use Rattle.rest_marks.specs.Reached.{is_below, leads_within, IsSound, IsWithin}
use Rattle.stopped_cycles.proofs.Numbers.{mark-cases, number-marked, number-none, number-null, numbers-long, IsNoMark}

-- Words are led to the marked objects at their new starts: an immediate stays, the address of an object becomes its new
-- one, and any other word becomes null.
pub record LeadsTo (heap : Heap) (marks : List ℕ) (led : ℕ → ℕ) : Type 0 where
  pub immediate : (word : ℕ) → is_immediate heap.edition word ≡ true → led word ≡ word
  pub there : (k : ℕ) → k < length heap.marks → led (from_address (get_or heap.marks k 0)) ≡ from_address (get_or marks k 0)
  pub lost : (word : ℕ) → is_immediate heap.edition word ≡ false → IsNoMark heap.marks word → led word ≡ 0

-- A collection left these words and roots, and its marked objects start at these indices: as many as before, in their
-- order, within the words and apart, each with its references and weak words led to them.
pub record IsMoved (heap : Heap) (led : ℕ → ℕ) (words marks new_roots : List ℕ) : Type 0 where
  pub few : length words ≤ most_words heap.edition
  pub many : length marks ≡ length heap.marks
  pub within : (k : ℕ) → k < length heap.marks → get_or marks k 0 + size_of (header_at heap.edition heap.words (get_or heap.marks k 0)) ≤ length words
  pub apart : (k : ℕ) → k + 1 < length heap.marks → get_or marks k 0 + size_of (header_at heap.edition heap.words (get_or heap.marks k 0)) ≤ get_or marks (k + 1) 0
  pub objects : (k f : ℕ) → k < length heap.marks → f < size_of (header_at heap.edition heap.words (get_or heap.marks k 0))
      → get_or words (get_or marks k 0 + f) 0 ≡ get_or (led_words led (object_at heap.edition heap.words (get_or heap.marks k 0))) f 0
  pub leads : LeadsTo heap marks led
  pub roots : new_roots ≡ map led heap.roots

module _ (heap : Heap) (led : ℕ → ℕ) (words marks roots : List ℕ) (is : IsSound heap) (moved : IsMoved heap led words marks roots) where
  abbrev edition : Edition
  edition = heap.edition

  abbrev left : Heap
  left = record { edition = heap.edition; words = words; marks = marks; roots = roots }

  abbrev mark : ℕ → ℕ
  mark k = get_or heap.marks k 0

  abbrev place : ℕ → ℕ
  place k = get_or marks k 0

  abbrev head_at : ℕ → Head
  head_at k = header_at heap.edition heap.words (get_or heap.marks k 0)

  abbrev old : ℕ → ℕ → ℕ
  old k f = get_or heap.words (mark k + f) 0

  -- ---- the heap that was left is sound

  -- a reference or a weak word
  word-led : (k f : ℕ) → k < length heap.marks → 1 ≤ f → f ≤ pointers_of (head_at k) → get_or words (place k + f) 0 ≡ led (old k f)
  word-led k f lt low within =
      moved.objects k f lt (omega (arith, within)) ∙ word-changed edition led heap.words (mark k) f (is.placed k 0 lt) low within

  -- any other word
  word-kept : (k f : ℕ) → k < length heap.marks → f < size_of (head_at k) → (1 ≤ f → pointers_of (head_at k) < f) → get_or words (place k + f) 0 ≡ old k f
  word-kept k f lt inside behind = moved.objects k f lt inside ∙ word-stays edition led heap.words (mark k) f (is.placed k 0 lt) behind inside

  -- the header
  head-kept : (k : ℕ) → k < length heap.marks → header_at edition words (place k) ≡ head_at k
  head-kept k lt =
      let there : place k ≡ place k + 0 = omega arith in
      let here : mark k + 0 ≡ mark k = omega arith in
      ap (header_of edition) (ap (λ (n : ℕ). get_or words n 0) there
      ∙ word-kept k 0 lt (omega arith) (λ low. absurd (omega (arith, low)))
      ∙ ap (λ (n : ℕ). get_or heap.words n 0) here)

  placed-left : (k : ℕ) → k < length heap.marks → IsPlaced edition words (place k)
  placed-left k lt =
      let sized = ap size_of (head-kept k lt) in
      let was = is.placed k 0 lt in
      record { within = omega (arith, sized, moved.within k lt); short = omega (arith, sized, was.short) }

  -- a word leads to an object, to none, or is an immediate
  led-value : (word : ℕ) → IsValue edition marks (led word)
  led-value word = elim (cases_Bool (is_immediate edition word)) [
    | inl immediate ↦ subst (IsValue edition marks) (sym (moved.leads.immediate word immediate)) (value-immediate edition marks word immediate)
    | inr plain ↦ value-target edition marks (led word) (elim (mark-cases heap.marks word) [
      | inl at ↦
          let to = from_address (place at.0) in
          let leads_there : led word ≡ to = ap led (sym at.2) ∙ moved.leads.there at.0 at.1 in
          subst (IsTarget marks) (sym leads_there)
          (or_right (to == 0) (list_any (λ m. from_address m == to) marks) (target_mark marks to at.0 (omega (arith, at.1, moved.many)) refl))
      | inr none ↦ subst (IsTarget marks) (sym (moved.leads.lost word plain none)) refl
    ])
  ]

  led-within : (word : ℕ) → IsWithin edition words (led word)
  led-within word = elim (cases_Bool (is_immediate edition word)) [
    | inl immediate ↦ subst (IsWithin edition words) (sym (moved.leads.immediate word immediate)) (or_left (is_immediate edition word) (leads_within (length words) word) immediate)
    | inr plain ↦ or_right (is_immediate edition (led word)) (leads_within (length words) (led word)) (elim (mark-cases heap.marks word) [
      | inl at ↦
          let i = place at.0 in
          let to = from_address i in
          let back : i ≡ to - 2 ^ 32 = omega arith in
          let inside : i < length words = omega (arith, moved.within at.0 at.1) in
          let leads_there : led word ≡ to = ap led (sym at.2) ∙ moved.leads.there at.0 at.1 in
          let address : (leb (2 ^ 32) to && is_below (length words) (to - 2 ^ 32)) ≡ true =
          and_from (leb (2 ^ 32) to) (is_below (length words) (to - 2 ^ 32)) (le-leb (2 ^ 32) to (omega arith))
          (ap (is_below (length words)) (sym back) ∙ lt-ltb i (length words) inside) in
          subst (λ (w : ℕ). leads_within (length words) w ≡ true) (sym leads_there) (or_right (to == 0) (leb (2 ^ 32) to && is_below (length words) (to - 2 ^ 32)) address)
      | inr none ↦ subst (λ (w : ℕ). leads_within (length words) w ≡ true) (sym (moved.leads.lost word plain none)) refl
    ])
  ]

  -- an element of a list of words that refer
  field-led : (k first count n : ℕ) → k < length heap.marks → n < count → 1 ≤ first → first + count ≤ 1 + pointers_of (head_at k)
      → get_or (take count (drop (place k + first) words)) n 0 ≡ led (old k (first + n))
  field-led k first count n lt inside positive few =
      let at : place k + first + n ≡ place k + (first + n) = omega arith in
      get_or-take count (drop (place k + first) words) n 0 inside
      ∙ get_or-drop (place k + first) words n 0
      ∙ ap (λ (m : ℕ). get_or words m 0) at
      ∙ word-led k (first + n) lt (omega (arith, positive)) (omega (arith, inside, few))

  pub left-sound : IsSound left
  left-sound = record {
    few_words = moved.few;
    few_roots = omega (arith, ap length moved.roots, length-map heap.roots led, is.few_roots);
    placed = All-from_get_or (IsPlaced edition words) marks 0 (λ k lt. placed-left k (omega (arith, lt, moved.many)));
    apart = λ k lt.
        let next : k + 1 < length heap.marks = omega (arith, lt, moved.many) in
        let low : k < length heap.marks = omega (arith, next) in
        omega (arith, ap size_of (head-kept k low), moved.apart k next);
    roots = subst (λ (xs : List ℕ). All (IsValue edition marks) xs) (sym moved.roots)
        (All-from_get_or (IsValue edition marks) (map led heap.roots) 0 (λ k lt.
        let inside : k < length heap.roots = omega (arith, lt, length-map heap.roots led) in
        subst (IsValue edition marks) (sym (read_map led heap.roots k 0 0 inside)) (led-value (get_or heap.roots k 0))));
    references = All-from_get_or (λ (m : ℕ). All (IsValue edition marks) (object_at edition words m).references) marks 0 (λ k lt.
        let low : k < length heap.marks = omega (arith, lt, moved.many) in
        let refs = refs_of (header_at edition words (place k)) in
        let head = ap refs_of (head-kept k low) in
        All-from_get_or (IsValue edition marks) (take refs (drop (place k + 1) words)) 0 (λ n less.
        let inside : n < refs = omega (arith, less, length-take refs (drop (place k + 1) words)) in
        subst (IsValue edition marks) (sym (field-led k 1 refs n low inside (omega arith) (omega (arith, head)))) (led-value (old k (1 + n)))));
    weak = All-from_get_or (λ (m : ℕ). All (IsWithin edition words) (object_at edition words m).weak) marks 0 (λ k lt.
        let low : k < length heap.marks = omega (arith, lt, moved.many) in
        let refs = refs_of (header_at edition words (place k)) in
        let weak = weak_of (header_at edition words (place k)) in
        let head = head-kept k low in
        let first : place k + (1 + refs) ≡ place k + 1 + refs = omega arith in
        All-from_get_or (IsWithin edition words) (take weak (drop (place k + 1 + refs) words)) 0 (λ n less.
        let inside : n < weak = omega (arith, less, length-take weak (drop (place k + 1 + refs) words)) in
        subst (IsWithin edition words)
        (sym (ap (λ (m : ℕ). get_or (take weak (drop m words)) n 0) (sym first)
        ∙ field-led k (1 + refs) weak n low inside (omega arith) (omega (arith, ap refs_of head, ap weak_of head))))
        (led-within (old k (1 + refs + n)))));
  }

  -- ---- in object numbers

  module _ (numbers : List ℕ) (as_many : length numbers ≡ length heap.marks) where
    abbrev old_names : Names
    old_names = names_in heap numbers

    abbrev new_names : Names
    new_names = names_in left numbers

    abbrev old_object : ℕ → List ℕ
    old_object k = numbered_object old_names (object_at edition heap.words (mark k))

    abbrev new_object : ℕ → List ℕ
    new_object k = numbered_object new_names (object_at edition words (place k))

    -- as many numbers as marked objects
    as-many-new : length numbers ≡ length marks
    as-many-new = as_many ∙ sym moved.many

    -- an object keeps its number
    same-number : (k : ℕ) → k < length heap.marks → number_at new_names (from_address (place k)) ≡ number_at old_names (from_address (mark k))
    same-number k lt =
        number-marked left left-sound numbers as-many-new k (omega (arith, lt, moved.many))
        ∙ sym (number-marked heap is numbers as_many k lt)

    -- a word leads to the same object
    same-lead : (word : ℕ) → number_at new_names (led word) ≡ number_at old_names word
    same-lead word = elim (cases_Bool (is_immediate edition word)) [
      | inl immediate ↦
          ap (number_at new_names) (moved.leads.immediate word immediate)
          ∙ number_immediate new_names word immediate ∙ sym (number_immediate old_names word immediate)
      | inr plain ↦ elim (mark-cases heap.marks word) [
        | inl at ↦
            ap (λ (w : ℕ). number_at new_names (led w)) (sym at.2)
            ∙ ap (number_at new_names) (moved.leads.there at.0 at.1) ∙ same-number at.0 at.1
            ∙ ap (number_at old_names) at.2
        | inr none ↦
            ap (number_at new_names) (moved.leads.lost word plain none)
            ∙ number-null left left-sound numbers as-many-new ∙ sym (number-none heap is numbers as_many word plain none)
      ]
    ]

    -- a word of an object in object numbers
    same-word : (k f : ℕ) → k < length heap.marks → f < size_of (head_at k)
        → numbered_word new_names (pointers_of (head_at k)) f (get_or words (place k + f) 0) ≡ numbered_word old_names (pointers_of (head_at k)) f (old k f)
    same-word k f lt inside =
        let pointers = pointers_of (head_at k) in
        let new = get_or words (place k + f) 0 in
        let stays : (1 ≤ f → pointers < f) → numbered_word new_names pointers f new ≡ numbered_word old_names pointers f (old k f) =
        λ behind. numbered_other new_names pointers f new behind ∙ word-kept k f lt inside behind ∙ sym (numbered_other old_names pointers f (old k f) behind) in
        elim (cases_lt f 1) [
          | inl first ↦ stays (λ low. absurd (omega (arith, first, low)))
          | inr low ↦ elim (cases_lt pointers f) [
            | inl past ↦ stays (λ _. past)
            | inr within ↦
                numbered_reference new_names pointers f new low within
                ∙ ap (number_at new_names) (word-led k f lt low within)
                ∙ same-lead (old k f) ∙ sym (numbered_reference old_names pointers f (old k f) low within)
          ]
        ]

    -- an object in object numbers
    same-object : (k : ℕ) → k < length heap.marks → old_object k ≡ new_object k
    same-object k lt =
        let head = head-kept k lt in
        let old_placed = is.placed k 0 lt in
        let new_placed = placed-left k lt in
        let old_long = object_long old_names edition heap.words (mark k) old_placed in
        let new_long = object_long new_names edition words (place k) new_placed in
        same_number_lists (old_object k) (new_object k) (old_long ∙ sym (new_long ∙ ap size_of head)) (λ f lt_f.
        let inside : f < size_of (head_at k) = omega (arith, lt_f, old_long) in
        object_word old_names edition heap.words (mark k) f old_placed inside
        ∙ sym (object_word new_names edition words (place k) f new_placed (omega (arith, inside, ap size_of head))
        ∙ ap (λ (h : Head). numbered_word new_names (pointers_of h) f (get_or words (place k + f) 0)) head
        ∙ same-word k f lt inside))

    -- all objects
    same-objects : map (numbered_object old_names) (live heap) ≡ map (numbered_object new_names) (live left)
    same-objects =
        let old_live = length-map heap.marks (object_at edition heap.words) in
        let old_long = length-map (live heap) (numbered_object old_names) ∙ old_live in
        let new_live = length-map marks (object_at edition words) in
        let new_long = length-map (live left) (numbered_object new_names) ∙ new_live ∙ moved.many in
        ext_get_or [] (map (numbered_object old_names) (live heap)) (map (numbered_object new_names) (live left)) (old_long ∙ sym new_long) (λ k inside.
        let lt : k < length heap.marks = omega (arith, inside, old_long) in
        read_map (numbered_object old_names) (live heap) k (object_at edition heap.words 0) [] (omega (arith, lt, old_live))
        ∙ ap (numbered_object old_names) (live-at edition heap.words heap.marks k)
        ∙ same-object k lt
        ∙ sym (read_map (numbered_object new_names) (live left) k (object_at edition words 0) [] (omega (arith, lt, new_live, moved.many))
        ∙ ap (numbered_object new_names) (live-at edition words marks k)))

    -- the roots
    same-roots : map (number_at old_names) heap.roots ≡ map (number_at new_names) roots
    same-roots =
        let led_long = length-map heap.roots led in
        let old_long = length-map heap.roots (number_at old_names) in
        let new_long = length-map (map led heap.roots) (number_at new_names) ∙ led_long in
        same_number_lists (map (number_at old_names) heap.roots) (map (number_at new_names) (map led heap.roots)) (old_long ∙ sym new_long) (λ i inside.
        let lt : i < length heap.roots = omega (arith, inside, old_long) in
        read_map (number_at old_names) heap.roots i 0 0 lt
        ∙ sym (read_map (number_at new_names) (map led heap.roots) i 0 0 (omega (arith, lt, led_long))
        ∙ ap (number_at new_names) (read_map led heap.roots i 0 0 lt)
        ∙ same-lead (get_or heap.roots i 0)))
        ∙ ap (map (number_at new_names)) (sym moved.roots)

  -- a stable heap that stands for the heap stands for what was left of it
  pub numbered-moved : (numbers : List ℕ) (stable : StableHeap) → IsNumberedAs heap numbers stable → IsNumberedAs left numbers stable
  numbered-moved numbers stable numbered =
      let as_many = numbers-long heap numbers stable numbered in
      record {
        edition = numbered.edition;
        there = numbered.there;
        words = numbered.words ∙ same-objects numbers as_many;
        roots = numbered.roots ∙ same-roots numbers as_many;
        given = numbered.given;
        once = numbered.once;
      }
