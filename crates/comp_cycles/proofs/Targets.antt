-- The objects of a closed heap in object numbers: their words, and where their references lead.
use Rattle.std.proofs.Common.{◌≡◌, ℕ, zero, suc, ◌+◌, ◌-◌, ◌<◌, ◌≤◌, ◌⊎◌, Bool, true, false, cond, eqb, ◌==◌, Some, List, [], ◌∷◌, length, get_or, map, refl, sym, ap, ◌∙◌, inl, inr, ⊎_elim, arith, eq-eqb, ne_eqb, eqb-true}
use Rattle.std.specs.List.{list_any, position_from}
use Rattle.std.specs.Option.{option_map}
use Rattle.std.proofs.lemmas.Bool.{cases_lt, or_cases, or_left, or_right, both_ways}
use Rattle.std.proofs.lemmas.List.{length-map, get_or-map}
use Rattle.heap_layout.specs.Header.{size_of}
use Rattle.heap_layout.specs.declared.edition.Edition.{Edition}
use Rattle.heap_layout.specs.Heap.{Heap, Object, header_at, object_at, live, from_address, is_target, IsPlaced, IsTarget, IsClosed}
use Rattle.heap_layout.specs.Values.{is_immediate}
use Rattle.heap_layout.proofs.Bounds.{words_most}
use Rattle.comp_cycles.proofs.Immediates.{not-immediate}
use Rattle.page_plan.specs.Sliding.{new_address, number_of, forward}
use Rattle.comp_cycles.specs.NumberedHeaps.{Names, number_at, names_in, pointers_of, numbered_object, numbered_word}
use Rattle.comp_cycles.proofs.Naming.{at_name, no_name}
use Rattle.comp_cycles.proofs.Living.{number_is, numbered_reference, numbered_other}
use Rattle.comp_cycles.proofs.ObjectWords.{words-length, word-changed, word-stays}

-- ---- the words of one object

pub object_long : (names : Names) (edition : Edition) (words : List ℕ) (i : ℕ) → IsPlaced edition words i → length (numbered_object names (object_at edition words i)) ≡ size_of (header_at edition words i)
object_long names edition words i placed = words-length edition (number_at names) words i placed

pub object_word : (names : Names) (edition : Edition) (words : List ℕ) (i j : ℕ) → IsPlaced edition words i → j < size_of (header_at edition words i)
    → get_or (numbered_object names (object_at edition words i)) j 0 ≡ numbered_word names (pointers_of (header_at edition words i)) j (get_or words (i + j) 0)
object_word names edition words i j placed lt =
    let pointers = pointers_of (header_at edition words i) in
    let word = get_or words (i + j) 0 in
    let stays : (1 ≤ j → pointers < j) → get_or (numbered_object names (object_at edition words i)) j 0 ≡ numbered_word names pointers j word =
    λ behind. word-stays edition (number_at names) words i j placed behind lt ∙ sym (numbered_other names pointers j word behind) in
    ⊎_elim
    (λ (first : j < 1). stays (λ low. absurd (omega (arith, first, low))))
    (λ (low : 1 ≤ j). ⊎_elim
    (λ (past : pointers < j). stays (λ _. past))
    (λ (within : j ≤ pointers). word-changed edition (number_at names) words i j placed low within ∙ sym (numbered_reference names pointers j word low within))
    (cases_lt pointers j))
    (cases_lt j 1)

-- ---- where a reference leads

target_at : (marks : List ℕ) (w : ℕ) → list_any (λ mark. from_address mark == w) marks ≡ true → (l : ℕ) × (l < length marks) × (from_address (get_or marks l 0) ≡ w)
target_at [] w some = absurd (both_ways false refl some)
target_at (mark ∷ marks) w some = ⊎_elim
    (λ (here : eqb (from_address mark) w ≡ true). (0, omega arith, eqb-true (from_address mark) w here))
    (λ (later : list_any (λ m. from_address m == w) marks ≡ true). let rest = target_at marks w later in (suc rest.0, omega (arith, rest.1), rest.2))
    (or_cases (eqb (from_address mark) w) (list_any (λ m. from_address m == w) marks) some)

-- a target is null, or the address of a marked object
pub target_cases : (marks : List ℕ) (w : ℕ) → IsTarget marks w → (w ≡ 0) ⊎ ((l : ℕ) × (l < length marks) × (from_address (get_or marks l 0) ≡ w))
target_cases marks w target = ⊎_elim
    (λ (null : eqb w 0 ≡ true). inl (eqb-true w 0 null))
    (λ (some : list_any (λ m. from_address m == w) marks ≡ true). inr (target_at marks w some))
    (or_cases (eqb w 0) (list_any (λ m. from_address m == w) marks) target)

-- the address of a marked object is a target
pub target_mark : (marks : List ℕ) (w l : ℕ) → l < length marks → from_address (get_or marks l 0) ≡ w → list_any (λ mark. from_address mark == w) marks ≡ true
target_mark [] w l lt e = absurd (omega (arith, lt))
target_mark (mark ∷ marks) w zero lt e = or_left (eqb (from_address mark) w) (list_any (λ m. from_address m == w) marks) (eq-eqb (from_address mark) w e)
target_mark (mark ∷ marks) w (suc l) lt e =
    or_right (eqb (from_address mark) w) (list_any (λ m. from_address m == w) marks) (target_mark marks w l (omega (arith, lt)) e)

module _ (heap : Heap) (closed : IsClosed heap) where
  -- the marks rise
  pub marks_below : (i d : ℕ) → i + suc d < length heap.marks → get_or heap.marks i 0 < get_or heap.marks (i + suc d) 0
  marks_below i zero lt =
      let one : i + 1 ≡ i + suc 0 = omega arith in
      let step = closed.apart i (omega (arith, lt)) in
      let here = ap (λ n. get_or heap.marks n 0) one in
      omega (arith, step, here)
  marks_below i (suc d) lt =
      let first = marks_below i d (omega (arith, lt)) in
      let next : i + suc d + 1 ≡ i + suc (suc d) = omega arith in
      let step = closed.apart (i + suc d) (omega (arith, lt)) in
      let here = ap (λ n. get_or heap.marks n 0) next in
      omega (arith, first, step, here)

  pub marks_rise : (i j : ℕ) → i < j → j < length heap.marks → get_or heap.marks i 0 < get_or heap.marks j 0
  marks_rise i j below lt =
      let d = j - i - 1 in
      let at : i + suc d ≡ j = omega (arith, below) in
      let rise = marks_below i d (omega (arith, at, lt)) in
      let here = ap (λ n. get_or heap.marks n 0) at in
      omega (arith, rise, here)

  -- no two marks are equal
  pub marks_once : (i j : ℕ) → i < length heap.marks → j < length heap.marks → get_or heap.marks i 0 ≡ get_or heap.marks j 0 → i ≡ j
  marks_once i j lt lt2 e = ⊎_elim
      (λ (below : i < j). let r = marks_rise i j below lt2 in absurd (omega (arith, r, e)))
      (λ (le : j ≤ i). ⊎_elim
      (λ (above : j < i). let r = marks_rise j i above lt in absurd (omega (arith, r, e)))
      (λ (ge : i ≤ j). let z : i ≡ j = omega (arith, le, ge) in z)
      (cases_lt j i))
      (cases_lt i j)

  addresses_long : length (map from_address heap.marks) ≡ length heap.marks
  addresses_long = length-map heap.marks from_address

  address_is : (l : ℕ) → l < length heap.marks → get_or (map from_address heap.marks) l 0 ≡ from_address (get_or heap.marks l 0)
  address_is l lt = get_or-map from_address heap.marks l 0 0 lt

  -- no marked object has an immediate for an address
  pub mark_low : (l : ℕ) → l < length heap.marks → is_immediate heap.edition (from_address (get_or heap.marks l 0)) ≡ false
  mark_low l lt =
      let placed = closed.placed l 0 lt in
      let inside = placed.within in
      let few = closed.few_words in
      not-immediate heap.edition (from_address (get_or heap.marks l 0)) (omega (arith, inside, few, words_most heap.edition))

  -- the number of a marked object
  pub named_mark : (numbers : List ℕ) (l : ℕ) → length numbers ≡ length heap.marks → l < length heap.marks → number_at (names_in heap numbers) (from_address (get_or heap.marks l 0)) ≡ get_or numbers l 0
  named_mark numbers l count lt =
      number_is (names_in heap numbers) (from_address (get_or heap.marks l 0)) (mark_low l lt)
      ∙ at_name (map from_address heap.marks) numbers l (from_address (get_or heap.marks l 0)) (omega (arith, addresses_long, lt)) (addresses_long ∙ sym count) (address_is l lt)
      (λ i below e. let r = marks_rise i l below lt in let a = address_is i (omega (arith, below, lt)) in omega (arith, r, a, e))

  -- null has no number
  pub named_null : (numbers : List ℕ) → number_at (names_in heap numbers) 0 ≡ 0
  named_null numbers = number_is (names_in heap numbers) 0 (not-immediate heap.edition 0 (omega arith)) ∙ no_name (map from_address heap.marks) numbers 0 (λ i lt e. let a = address_is i (omega (arith, addresses_long, lt)) in omega (arith, a, e))

  -- a word that is no value has no number
  pub named_none : (numbers : List ℕ) (w : ℕ) → is_immediate heap.edition w ≡ false → is_target heap.marks w ≡ false → number_at (names_in heap numbers) w ≡ 0
  named_none numbers w other none = number_is (names_in heap numbers) w other ∙ no_name (map from_address heap.marks) numbers w
      (λ i lt e.
      let inside : i < length heap.marks = omega (arith, addresses_long, lt) in
      let found = target_mark heap.marks w i inside (sym (address_is i inside) ∙ e) in
      both_ways (is_target heap.marks w) none (or_right (eqb w 0) (list_any (λ mark. from_address mark == w) heap.marks) found))

  -- a marked object's address is forwarded to its object's new address
  pub forward_mark : (l : ℕ) → l < length heap.marks → forward (live heap) (from_address (get_or heap.marks l 0)) ≡ Some (new_address (live heap) l)
  forward_mark l lt =
      let w = from_address (get_or heap.marks l 0) in
      ap (λ (b : Bool). cond b (Some 0) (option_map (new_address (live heap)) (number_of (live heap) w))) (ne_eqb w 0 (λ e. omega (arith, e)))
      ∙ ap (option_map (new_address (live heap))) (position_at heap.edition heap.words heap.marks l 0 w lt refl (λ i below e. let r = marks_rise i l below lt in omega (arith, r, e)) ∙ ap (λ n. Some n) (let z : 0 + l ≡ l = omega arith in z))
    where
      position_at : (edition : Edition) (words marks : List ℕ) (l first w : ℕ) → l < length marks → from_address (get_or marks l 0) ≡ w → ((i : ℕ) → i < l → from_address (get_or marks i 0) ≡ w → ⊥)
          → position_from (λ object. from_address object.index == w) first (map (object_at edition words) marks) ≡ Some (first + l)
      position_at edition words [] l first w lt e none = absurd (omega (arith, lt))
      position_at edition words (mark ∷ marks) zero first w lt e none =
          ap (λ (b : Bool). cond b (Some first) (position_from (λ (o : Object). from_address o.index == w) (first + 1) (map (object_at edition words) marks))) (eq-eqb (from_address mark) w e)
          ∙ ap (λ n. Some n) (let z : first ≡ first + 0 = omega arith in z)
      position_at edition words (mark ∷ marks) (suc l) first w lt e none =
          ap (λ (b : Bool). cond b (Some first) (position_from (λ (o : Object). from_address o.index == w) (first + 1) (map (object_at edition words) marks))) (ne_eqb (from_address mark) w (λ q. none 0 (omega arith) q))
          ∙ position_at edition words marks l (first + 1) w (omega (arith, lt)) e (λ i below q. none (suc i) (omega (arith, below)) q)
          ∙ ap (λ n. Some n) (let z : first + 1 + l ≡ first + suc l = omega arith in z)
