-- How a marked object is found by its old address.
use Rattle.std.proofs.Common.{◌≡◌, ℕ, zero, suc, ◌+◌, ◌^◌, ◌<◌, Bool, true, false, cond, ◌==◌, ◌≢◌, subst, MatchOption, Option, Some, None, List, [], ◌∷◌, length, get_or, map, refl, sym, ap, ◌∙◌, arith, eq-eqb, ne_eqb}
use Rattle.std.specs.List.{position_from}
use Rattle.std.specs.Option.{option_map}
use Rattle.std.specs.Prelude.{unwrap_or}
use Rattle.std.proofs.lemmas.Option.{same_Some}
use Rattle.heap_layout.specs.declared.edition.Edition.{Edition}
use Rattle.heap_layout.specs.Heap.{Heap, Object, object_at, live, from_address, IsClosed}
use Rattle.page_plan.specs.Sliding.{number_of, to_address}
use Rattle.comp_cycles.proofs.Targets.{marks_rise}
use Rattle.moved_heaps.specs.Moved.{led}

-- the number of the first object at this address
number_at : (edition : Edition) (words marks : List ℕ) (l first w : ℕ) → l < length marks → from_address (get_or marks l 0) ≡ w → ((i : ℕ) → i < l → from_address (get_or marks i 0) ≡ w → ⊥)
    → position_from (λ object. from_address object.index == w) first (map (object_at edition words) marks) ≡ Some (first + l)
number_at edition words [] l first w lt e none = absurd (omega (arith, lt))
number_at edition words (mark ∷ marks) zero first w lt e none =
    ap (λ (b : Bool). cond b (Some first) (position_from (λ (o : Object). from_address o.index == w) (first + 1) (map (object_at edition words) marks))) (eq-eqb (from_address mark) w e)
    ∙ ap (λ n. Some n) (let z : first ≡ first + 0 = omega arith in z)
number_at edition words (mark ∷ marks) (suc l) first w lt e none =
    ap (λ (b : Bool). cond b (Some first) (position_from (λ (o : Object). from_address o.index == w) (first + 1) (map (object_at edition words) marks))) (ne_eqb (from_address mark) w (λ q. none 0 (omega arith) q))
    ∙ number_at edition words marks l (first + 1) w (omega (arith, lt)) e (λ i below q. none (suc i) (omega (arith, below)) q)
    ∙ ap (λ n. Some n) (let z : first + 1 + l ≡ first + suc l = omega arith in z)

-- no object is at this address
no_number : (edition : Edition) (words marks : List ℕ) (first w : ℕ) → ((i : ℕ) → i < length marks → from_address (get_or marks i 0) ≡ w → ⊥)
    → position_from (λ object. from_address object.index == w) first (map (object_at edition words) marks) ≡ None
no_number edition words [] first w none = refl
no_number edition words (mark ∷ marks) first w none =
    ap (λ (b : Bool). cond b (Some first) (position_from (λ (o : Object). from_address o.index == w) (first + 1) (map (object_at edition words) marks))) (ne_eqb (from_address mark) w (λ q. none 0 (omega arith) q))
    ∙ no_number edition words marks (first + 1) w (λ i lt q. none (suc i) (omega (arith, lt)) q)

module _ (heap : Heap) where
  -- no marked object is at an address that no mark has
  pub unmarked : (w : ℕ) → ((i : ℕ) → i < length heap.marks → from_address (get_or heap.marks i 0) ≡ w → ⊥) → number_of (live heap) w ≡ None
  unmarked w none = no_number heap.edition heap.words heap.marks 0 w none

  -- nor at an address outside the range of indices
  pub below_space : (w : ℕ) → w < 2 ^ 32 → number_of (live heap) w ≡ None
  below_space w lt = unmarked w (λ i inside e. omega (arith, lt, e))

  -- such a word leads to null
  pub led-unmarked : (places : List ℕ) (w : ℕ) → ((i : ℕ) → i < length heap.marks → from_address (get_or heap.marks i 0) ≡ w → ⊥) → led (live heap) places w ≡ 0
  led-unmarked places w none = ap (λ (found : Option ℕ). unwrap_or (option_map (λ k. to_address (get_or places k 0)) found) 0) (unmarked w none)

  module _ (closed : IsClosed heap) where
    -- the number of a marked object
    pub marked_number : (l : ℕ) → l < length heap.marks → number_of (live heap) (from_address (get_or heap.marks l 0)) ≡ Some l
    marked_number l lt =
        number_at heap.edition heap.words heap.marks l 0 (from_address (get_or heap.marks l 0)) lt refl (λ i below e. let r = marks_rise heap closed i l below lt in omega (arith, r, e))
        ∙ ap (λ n. Some n) (let z : 0 + l ≡ l = omega arith in z)

    -- it leads to its new place
    pub led-marked : (places : List ℕ) (l : ℕ) → l < length heap.marks → led (live heap) places (from_address (get_or heap.marks l 0)) ≡ to_address (get_or places l 0)
    led-marked places l lt = ap (λ (found : Option ℕ). unwrap_or (option_map (λ k. to_address (get_or places k 0)) found) 0) (marked_number l lt)

    -- what the index answers for the place behind the first address of from-space
    pub indexed_number : (index : List ℕ) (i address : ℕ) (r : Option ℕ) → index ≡ heap.marks → address ≡ from_address i
        → MatchOption r ((k : ℕ) → k < length index → get_or index k 0 ≢ i) (λ k. (k < length index) × (get_or index k 0 ≡ i)) → r ≡ number_of (live heap) address
    indexed_number index i address None same at none =
        let none_marked : (k : ℕ) → k < length heap.marks → get_or heap.marks k 0 ≢ i = subst (λ (xs : List ℕ). (k : ℕ) → k < length xs → get_or xs k 0 ≢ i) same none in
        sym (unmarked address (λ k lt e. none_marked k lt (omega (arith, e, at))))
    indexed_number index i address (Some k) same at found =
        let there : (k < length heap.marks) × (get_or heap.marks k 0 ≡ i) = subst (λ (xs : List ℕ). (k < length xs) × (get_or xs k 0 ≡ i)) same found in
        sym (marked_number k there.0) ∙ ap (number_of (live heap)) (let z : from_address (get_or heap.marks k 0) ≡ address = omega (arith, there.1, at) in z)

number_step : (b : Bool) (rest : Option ℕ) (first n k : ℕ) → (rest ≡ Some k → k < first + 1 + n) → cond b (Some first) rest ≡ Some k → k < first + suc n
number_step true rest first n k others is = let same : first ≡ k = same_Some first k is in omega (arith, same)
number_step false rest first n k others is = let lt = others is in omega (arith, lt)

number_range : (edition : Edition) (words marks : List ℕ) (first w k : ℕ) → position_from (λ object. from_address object.index == w) first (map (object_at edition words) marks) ≡ Some k → k < first + length marks
number_range edition words [] first w k is = absurd (none_is_no_some is)
  where
    none_is_no_some : ◌≡◌ {A = Option ℕ} None (Some k) → ⊥
    none_is_no_some e = cc
number_range edition words (mark ∷ marks) first w k is =
    number_step (from_address mark == w) (position_from (λ object. from_address object.index == w) (first + 1) (map (object_at edition words) marks)) first (length marks) k
    (number_range edition words marks (first + 1) w k) is

-- the number of an object is below that of all objects
pub number_below : (heap : Heap) (w k : ℕ) → number_of (live heap) w ≡ Some k → k < length heap.marks
number_below heap w k is = let lt = number_range heap.edition heap.words heap.marks 0 w k is in omega (arith, lt)
