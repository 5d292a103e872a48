-- The words of the next heap are a row of objects.
use Rattle.std.proofs.Common.{◌≡◌, ◌≢◌, ℕ, zero, suc, ◌+◌, ◌-◌, ◌*◌, ◌<◌, ◌≤◌, ◌⊎◌, Bool, true, false, cond, eqb, Option, Some, None, List, [], ◌∷◌, ◌++◌, length, get_or, filter, refl, sym, ap, ap₂, ◌∙◌, inl, inr, ⊎_elim, subst, arith, eqb-true, eq-eqb}
use Rattle.std.specs.List.{flat_map, range_with_len}
use Rattle.std.proofs.lemmas.Bool.{cases_lt, cases_Bool, or_cases, or_left, or_right, both_ways}
use Rattle.std.proofs.lemmas.List.{length-map}
use Rattle.heap_layout.specs.Limits.{most_object_words}
use Rattle.heap_layout.proofs.Bounds.{object_least}
use Rattle.heap_layout.specs.Header.{header_of, size_of}
use Rattle.heap_layout.specs.Heap.{Heap, header_at, starts, starts_at, is_start, IsPlaced, IsClosed}
use Rattle.heap_layout.specs.Faults.{unless, size_faults, object_faults, mark_faults, root_faults, target_faults, weak_faults, faults, IsAccepted}
use Rattle.heap_layout.specs.declared.edition.Edition.{Edition}
use Rattle.heap_layout.specs.declared.edition.Edition.TheVariants.{One, Two, Three, Four}
use Rattle.heap_layout.specs.declared.fault.LayoutFault.{LayoutFault}
use Rattle.heap_layout.specs.declared.fault.LayoutFault.TheVariants.{MarkNotStart}
use Rattle.heap_layout.specs.declared.kind.Kind.{Kind}
use Rattle.heap_layout.specs.declared.kind.Kind.TheVariants.{Header, Reference, Weak, Data}
use Rattle.heap_layout.proofs.Rows.{append-none, unless-none, starts_at-step, starts_at-past, faults-behind}
use Rattle.heap_layout.specs.Kinds.{first_of}
use Rattle.heap_layout.proofs.Marked.{closed, marks-started}
use Rattle.comp_history.specs.Setup.{Setup, pages}
use Rattle.comp_history.specs.Locks.{Journals}
use Rattle.comp_history.specs.Merged.{CanMerge}
use Rattle.comp_history.proofs.Words.{some_field}
use Rattle.comp_cycles.specs.NextHeap.{word_in, kind_in, lowered_as, next_word, next_heap, is_header, object_starts, next_faults}
use Rattle.comp_cycles.proofs.Naming.{at_row, row_long}
use Rattle.comp_cycles.proofs.Living.{other_kind}
use Rattle.comp_cycles.proofs.Finals.{head_in, stands, field_within, none_is_zero, is_object, IsWholeAt}

-- ---- words with kinds

-- a field of some kind other than header
abbrev pub IsField : Option Kind → Type 0
IsField o = (k : Kind) × (k ≢ Header) × (o ≡ Some k)

abbrev pub Begins : Option Kind → Type 0
Begins o = (o ≡ Some Header) ⊎ (o ≡ None)

either : (o : Option Kind) → Begins o ⊎ IsField o
either None = inl (inr refl)
either (Some Header) = inl (inl refl)
either (Some Reference) = inr (Reference, (λ z. cc), refl)
either (Some Weak) = inr (Weak, (λ z. cc), refl)
either (Some Data) = inr (Data, (λ z. cc), refl)

not_both : (o : Option Kind) → Begins o → IsField o → ⊥
not_both o (inl a) field = field.1 (let both : Some field.0 ≡ Some Header = sym field.2 ∙ a in cc)
not_both o (inr a) field = let both : Some field.0 ≡ None = sym field.2 ∙ a in cc

-- the word 0 is the header of an object without fields
empty_size : (edition : Edition) → size_of (header_of edition 0) ≡ 1
empty_size One = refl
empty_size Two = refl
empty_size Three = refl
empty_size Four = refl

-- Words of these kinds: objects, and zeros between them.
pub record IsObjectRow (edition : Edition) (words : List ℕ) (kind : ℕ → Option Kind) : Type 0 where
  pub placed : (i : ℕ) → i < length words → kind i ≡ Some Header → IsPlaced edition words i
  pub inside : (i j : ℕ) → i < length words → kind i ≡ Some Header → i < j → j < i + size_of (header_at edition words i) → IsField (kind j)
  pub within : (j : ℕ) → j < length words → IsField (kind j) → (i : ℕ) × (i < length words) × (kind i ≡ Some Header) × (i < j) × (j < i + size_of (header_at edition words i))
  pub empty : (i : ℕ) → i < length words → kind i ≡ None → get_or words i 0 ≡ 0

module _ (edition : Edition) (words : List ℕ) (kind : ℕ → Option Kind) (row : IsObjectRow edition words kind) where
  abbrev long : ℕ
  long = length words

  abbrev size_at : ℕ → ℕ
  size_at i = size_of (header_at edition words i)

  empty_here : (i : ℕ) → i < long → kind i ≡ None → size_at i ≡ 1
  empty_here i lt none = ap (λ w. size_of (header_of edition w)) (row.empty i lt none) ∙ empty_size edition

  -- an object stands where one begins
  placed_here : (i : ℕ) → i < long → Begins (kind i) → IsPlaced edition words i
  placed_here i lt b = ⊎_elim
      (λ head. row.placed i lt head)
      (λ none.
      let one = empty_here i lt none in
      record { within = omega (arith, one, lt); short = omega (arith, one, object_least edition) })
      b

  -- another object begins after it
  next_begins : (i : ℕ) → i < long → Begins (kind i) → i + size_at i < long → Begins (kind (i + size_at i))
  next_begins i lt b inside = ⊎_elim
      (λ begins. begins)
      (λ field.
      let w = row.within (i + size_at i) inside field in
      let start = w.0 in
      absurd (⊎_elim
      (λ (before : start < i).
      let of = row.inside start i w.1 w.2 before (omega (arith, w.4)) in not_both (kind i) b of)
      (λ (le : i ≤ start). ⊎_elim
      (λ (after : i < start). ⊎_elim
      (λ (head : kind i ≡ Some Header). let of = row.inside i start lt head after w.3 in not_both (kind start) (inl w.2) of)
      (λ (none : kind i ≡ None). let one = empty_here i lt none in let first = w.3 in omega (arith, one, after, first))
      b)
      (λ (ge : start ≤ i). let same : start ≡ i = omega (arith, le, ge) in let e = ap size_at same in let last = w.4 in omega (arith, e, same, last))
      (cases_lt i start))
      (cases_lt start i)))
      (either (kind (i + size_at i)))

  -- no object has a fault
  none_faulty : (steps i : ℕ) → long ≤ i + steps → (i < long → Begins (kind i)) → flat_map (object_faults edition words) (starts_at edition words i) ≡ []
  none_faulty zero i few b = ap (flat_map (object_faults edition words)) (starts_at-past edition words i (omega (arith, few)))
  none_faulty (suc steps) i few b = ⊎_elim
      (λ (lt : i < long). sym (faults-behind edition words i (placed_here i lt (b lt))) ∙ none_faulty steps (i + size_at i) (omega (arith, few)) (next_begins i lt (b lt)))
      (λ (past : long ≤ i). ap (flat_map (object_faults edition words)) (starts_at-past edition words i past))
      (cases_lt i long)

  -- each header is found as a start
  found : (steps i j : ℕ) → long ≤ i + steps → (i < long → Begins (kind i)) → i ≤ j → j < long → kind j ≡ Some Header → is_start (starts_at edition words i) j ≡ true
  found zero i j few b le lt head = absurd (omega (arith, few, le, lt))
  found (suc steps) i j few b le lt head =
      let here : i < long = omega (arith, le, lt) in
      let placed = placed_here i here (b here) in
      let next = starts_at edition words (i + size_at i) in
      ap (λ r. is_start r j) (starts_at-step edition words i placed.within)
      ∙ ⊎_elim
      (λ (inside : j < i + size_at i). ⊎_elim
      (λ (after : i < j). absurd (⊎_elim
      (λ (first : kind i ≡ Some Header). let of = row.inside i j here first after inside in not_both (kind j) (inl head) of)
      (λ (none : kind i ≡ None). let one = empty_here i here none in omega (arith, one, after, inside))
      (b here)))
      (λ (ge : j ≤ i). or_left (eqb i j) (is_start next j) (eq-eqb i j (omega (arith, le, ge))))
      (cases_lt i j))
      (λ (behind : i + size_at i ≤ j). or_right (eqb i j) (is_start next j) (found steps (i + size_at i) j (omega (arith, few)) (next_begins i here (b here)) behind lt head))
      (cases_lt j (i + size_at i))

  first_begins : 0 < long → Begins (kind 0)
  first_begins lt = ⊎_elim
      (λ begins. begins)
      (λ field. let w = row.within 0 lt field in let below = w.3 in absurd (omega (arith, below)))
      (either (kind 0))

  pub sound_row : flat_map (object_faults edition words) (starts edition words) ≡ []
  sound_row = none_faulty long 0 (omega arith) first_begins

  pub start_found : (j : ℕ) → j < long → kind j ≡ Some Header → is_start (starts edition words) j ≡ true
  start_found j lt head = found long 0 j (omega arith) first_begins (omega arith) lt head

-- ---- marks

filter_has : (test : ℕ → Bool) (low n m : ℕ) → is_start (filter test (range_with_len low n)) m ≡ true → (m < low + n) × (test m ≡ true)
filter_has test low zero m found = absurd (both_ways false refl found)
filter_has test low (suc n) m found = ⊎_elim
    (λ (yes : test low ≡ true).
    ⊎_elim
    (λ (here : eqb low m ≡ true). let same = eqb-true low m here in (omega (arith, same), ap test (sym same) ∙ yes))
    (λ (later : is_start (filter test (range_with_len (low + 1) n)) m ≡ true). let r = filter_has test (low + 1) n m later in (omega (arith, r.0), r.1))
    (or_cases (eqb low m) (is_start (filter test (range_with_len (low + 1) n)) m)
    (sym (ap (λ b. is_start (cond b (low ∷ filter test (range_with_len (low + 1) n)) (filter test (range_with_len (low + 1) n))) m) yes) ∙ found)))
    (λ (no : test low ≡ false).
    let r = filter_has test (low + 1) n m (sym (ap (λ b. is_start (cond b (low ∷ filter test (range_with_len (low + 1) n)) (filter test (range_with_len (low + 1) n))) m) no) ∙ found) in
    (omega (arith, r.0), r.1))
    (cases_Bool (test low))

header_is : (o : Option Kind) → is_header o ≡ true → o ≡ Some Header
header_is None e = absurd (both_ways false refl e)
header_is (Some Header) e = refl
header_is (Some Reference) e = absurd (both_ways false refl e)
header_is (Some Weak) e = absurd (both_ways false refl e)
header_is (Some Data) e = absurd (both_ways false refl e)

-- marks without a fault in one list of starts have none in a list that includes those starts
marks_in : (some row : List ℕ) (low : ℕ) (marks : List ℕ) → ((m : ℕ) → is_start some m ≡ true → is_start row m ≡ true) → mark_faults some low marks ≡ [] → mark_faults row low marks ≡ []
marks_in some row low [] has none = refl
marks_in some row low (mark ∷ marks) has none =
    let parts = append-none (unless _ _ ++ unless _ _) (mark_faults some (mark + 1) marks) none in
    let tests = append-none (unless _ _) (unless _ _) parts.0 in
    let start : is_start row mark ≡ true = has mark (unless-none _ _ tests.1) in
    ap₂ (λ (a b : List LayoutFault). (a ++ b) ++ mark_faults row (mark + 1) marks) tests.0 (ap (λ t. unless t (MarkNotStart mark)) start) ∙ marks_in some row (mark + 1) marks has parts.1

-- ---- the next heap

module _ (u : Setup) (journals : Journals) (closed_before : IsClosed u.heap) (can : CanMerge u journals) (roots marks : List ℕ) where
  abbrev next : Heap
  next = next_heap u journals roots marks

  pub next_long : length next.words ≡ 64 * pages u
  next_long = length-map (range_with_len 0 (64 * pages u)) (next_word u journals) ∙ row_long 0 (64 * pages u)

  pub next_is : (i : ℕ) → i < 64 * pages u → get_or next.words i 0 ≡ next_word u journals i
  next_is i lt = at_row (next_word u journals) 0 (64 * pages u) i lt ∙ ap (next_word u journals) (let z : 0 + i ≡ i = omega arith in z)

  -- words that do not refer stay
  pub next_kind : (i : ℕ) (o : Option Kind) → i < 64 * pages u → kind_in u journals i ≡ o → get_or next.words i 0 ≡ lowered_as u.heap.edition o (word_in u journals i)
  next_kind i o lt e = next_is i lt ∙ ap (λ k. lowered_as u.heap.edition k (word_in u journals i)) e

  stands_at : (i : ℕ) → i < 64 * pages u → kind_in u journals i ≡ Some Header → IsWholeAt u journals i
  stands_at i lt e = stands u journals closed_before can i (is_object u journals closed_before can i lt e)

  -- a header stays
  next_head : (i : ℕ) → i < 64 * pages u → kind_in u journals i ≡ Some Header → header_at u.heap.edition next.words i ≡ head_in u journals i
  next_head i lt e = ap (header_of u.heap.edition) (next_kind i (Some Header) lt e)

  pub next_row : IsObjectRow u.heap.edition next.words (kind_in u journals)
  next_row = record {
    placed = λ i lt e.
        let inside : i < 64 * pages u = omega (arith, lt, next_long) in
        let s = stands_at i inside e in
        let head = next_head i inside e in
        record {
          within = subst (λ h. i + size_of h ≤ length next.words) (sym head) (let ends = s.ends in omega (arith, ends, next_long));
          short = subst (λ h. size_of h ≤ most_object_words u.heap.edition) (sym head) s.short;
        };
    inside = λ i j lt e after before.
        let inside : i < 64 * pages u = omega (arith, lt, next_long) in
        let s = stands_at i inside e in
        let h = head_in u journals i in
        let few : j < i + size_of h = subst (λ x. j < i + size_of x) (next_head i inside e) before in
        let some = some_field h (j - i) (omega (arith, few, after)) (λ z. omega (arith, after, z)) in
        let field = some.1 in
        let at : j ≡ i + first_of some.0 h + field.0 = let place = field.2 in omega (arith, place, after) in
        (some.0, other_kind some.0 h field.0 field.1, ap (kind_in u journals) at ∙ s.fields some.0 field.0 field.1);
    within = λ j lt field.
        let inside : j < 64 * pages u = omega (arith, lt, next_long) in
        let w = field_within u journals closed_before can j field.0 field.1 inside field.2 in
        let low : w.start < 64 * pages u = let above = w.above in omega (arith, above, inside) in
        let head = next_head w.start low w.stands.first in
        (w.start, omega (arith, low, next_long), w.stands.first, w.above, subst (λ x. j < w.start + size_of x) (sym head) w.below);
    empty = λ i lt e. let inside : i < 64 * pages u = omega (arith, lt, next_long) in next_kind i None inside e ∙ none_is_zero u journals closed_before can i e;
  }

  -- a marked word is the start of an object
  pub mark_is : (m : ℕ) → is_start (object_starts u journals) m ≡ true → (m < 64 * pages u) × (kind_in u journals m ≡ Some Header)
  mark_is m found =
      let has = filter_has (λ i. is_header (kind_in u journals i)) 0 (64 * pages u) m found in
      (let lt = has.0 in omega (arith, lt), header_is (kind_in u journals m) has.1)

  has_start : (m : ℕ) → is_start (object_starts u journals) m ≡ true → is_start (starts u.heap.edition next.words) m ≡ true
  has_start m found = let is = mark_is m found in start_found u.heap.edition next.words (kind_in u journals) next_row m (let lt = is.0 in omega (arith, lt, next_long)) is.1

  abbrev size_list : List LayoutFault
  size_list = size_faults u.heap.edition (length next.words) (length marks) (length next.roots)

  abbrev marks_list : List LayoutFault
  marks_list = mark_faults (object_starts u journals) 0 marks

  abbrev roots_list : List LayoutFault
  roots_list = root_faults u.heap.edition marks next.roots

  abbrev targets_list : List LayoutFault
  targets_list = target_faults u.heap.edition next.words marks marks

  abbrev weak_list : List LayoutFault
  weak_list = weak_faults u.heap.edition next.words marks

  -- if sizes and marks have no fault, the faults are those of any heap
  pub same_faults : size_list ≡ [] → marks_list ≡ [] → faults next ≡ next_faults u journals next
  same_faults sizes none =
      let row = sound_row u.heap.edition next.words (kind_in u journals) next_row in
      let in_row = marks_in (object_starts u journals) (starts u.heap.edition next.words) 0 marks has_start none in
      ap (λ (l : List LayoutFault). size_list ++ ((((l ++ mark_faults (starts u.heap.edition next.words) 0 marks) ++ roots_list) ++ targets_list) ++ weak_list)) row
      ∙ ap (λ (l : List LayoutFault). size_list ++ (((l ++ roots_list) ++ targets_list) ++ weak_list)) in_row
      ∙ ap (λ (l : List LayoutFault). l ++ ((roots_list ++ targets_list) ++ weak_list)) sizes
      ∙ sym (ap (λ (l : List LayoutFault). (((size_list ++ l) ++ roots_list) ++ targets_list) ++ weak_list) none
      ∙ ap (λ (l : List LayoutFault). (((l ++ []) ++ roots_list) ++ targets_list) ++ weak_list) sizes)

  -- if the next heap has no fault, its sizes and marks have none
  none_first : next_faults u journals next ≡ [] → (size_list ≡ []) × (marks_list ≡ [])
  none_first none =
      let four = append-none (size_list ++ marks_list ++ roots_list ++ targets_list) weak_list none in
      let three = append-none (size_list ++ marks_list ++ roots_list) targets_list four.0 in
      let two = append-none (size_list ++ marks_list) roots_list three.0 in
      append-none size_list marks_list two.0

  -- if the next heap has no fault, it is accepted
  pub accepted : next_faults u journals next ≡ [] → IsAccepted next
  accepted none = let one = none_first none in same_faults one.0 one.1 ∙ none

  pub marked_objects : next_faults u journals next ≡ [] → (k : ℕ) → k < length marks → (get_or marks k 0 < 64 * pages u) × (kind_in u journals (get_or marks k 0) ≡ Some Header)
  marked_objects none k lt = let one = none_first none in mark_is (get_or marks k 0) (marks-started (object_starts u journals) 0 marks one.1 k 0 lt)

  pub next_closed : next_faults u journals next ≡ [] → IsClosed next
  next_closed none = closed next (accepted none)
