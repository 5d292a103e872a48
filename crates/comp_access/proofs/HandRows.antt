-- Rows of what has a hand, as the mutators of a space: each has a pass.
use Rattle.std.proofs.Common.{◌≡◌, ℕ, zero, suc, ◌+◌, ◌<◌, ◌≤◌, All, List, [], ◌∷◌, ◌++◌, map, length, get_or, refl, sym, ap, ◌∙◌, subst, arith, append_assoc, length-append}
use Rattle.std.proofs.lemmas.List.{length-map}
use mathlib.Core.Option.{some, some-injective}
use lib.ListN.{get_elem?}
use Rattle.heap_layout.specs.Numbered.{IsInOrder}
use Rattle.cell_steps.specs.Passes.{did, edition_of, number_of, Rests}
use Rattle.cell_steps.specs.declared.pass.Pass.{Pass}
use Rattle.cell_steps.specs.declared.steps.Steps.{Steps}
use Rattle.page_cells.specs.CellEnds as ends
use Rattle.page_cells.specs.CellEnds.{AllRest}
use Rattle.page_cells.specs.CellViews.{AreNew, Works}
use Rattle.page_cells.proofs.Rows.{read_at, at_below, at_map, at_map_back, at_value}
use Rattle.comp_history.specs.MadeWords.{allocated}
use Rattle.comp_cycles.specs.Finishes.{allocated_by}
use Rattle.comp_access.specs.Hands.{pass_of}
use Rattle.comp_access.specs.declared.hand.Hand.{Hand}

module _ {A : Type 0} where
  -- what holds of all holds of each
  pub all_at : (P : A → Type 0) (xs : List A) → All P xs → (k : ℕ) (x : A) → get_elem? xs k ≡ some x → P x
  all_at P xs h k x e = subst P (read_at xs k x x e) (h k x (at_below xs k x e))

  -- the element at an index of a list
  pub at_some : (xs : List A) (k : ℕ) → k < length xs → (x : A) × (get_elem? xs k ≡ some x)
  at_some [] k lt = absurd (omega (arith, lt))
  at_some (x ∷ xs) zero lt = (x, refl)
  at_some (x ∷ xs) (suc k) lt = at_some xs k (omega (arith, lt))

  -- lists of the same length with the same element at each index are equal
  same_list : (xs ys : List A) → length xs ≡ length ys → ((k : ℕ) (x : A) → get_elem? xs k ≡ some x → get_elem? ys k ≡ some x) → xs ≡ ys
  same_list [] [] e h = refl
  same_list [] (y ∷ ys) e h = absurd (omega (arith, e))
  same_list (x ∷ xs) [] e h = absurd (omega (arith, e))
  same_list (x ∷ xs) (y ∷ ys) e h = ap (λ (z : A). z ∷ xs) (sym (some-injective y x (h 0 x refl))) ∙ ap (λ (l : List A). y ∷ l) (same_list xs ys (omega (arith, e)) (λ k z at. h (suc k) z at))

  -- what is in order is its own row
  pub own_row : (number : A → ℕ) (given row : List A) (n : ℕ) → IsInOrder number n given row → IsInOrder number n given given → row ≡ given
  own_row number given row n r own = same_list row given (omega (arith, r.count, own.count)) (λ k m e.
      let i = r.given k m e in
      let same : i.0 ≡ k = sym (own.numbers i.0 m i.1) ∙ r.numbers k m e in
      subst (λ j. get_elem? given j ≡ some m) same i.1)

-- a hand holds no page
pub hand_rests : (hand : Hand) → Rests (pass_of hand)
hand_rests hand = hand.rests

-- the passes of what has hands, in order
module _ {A : Type 0} (hand_in : A → Hand) (given row : List A) (n : ℕ) (is_row : IsInOrder (λ x. number_of (pass_of (hand_in x))) n given row) where
  abbrev pub passes_in : List A → List Pass
  passes_in xs = map (λ (x : A). pass_of (hand_in x)) xs

  -- are the passes of a table
  pub rest_all : (steps : Steps) (mutators : ℕ) → ((k : ℕ) (x : A) → get_elem? given k ≡ some x → Works steps mutators (pass_of (hand_in x))) → AllRest steps mutators (passes_in row)
  rest_all steps mutators of = record {
    works = λ k pass e. let b = at_map_back (λ (x : A). pass_of (hand_in x)) row k pass e in let i = is_row.given k b.0 b.1 in subst (Works steps mutators) b.2 (of i.0 b.0 i.1);
    rest = λ k pass e. let b = at_map_back (λ (x : A). pass_of (hand_in x)) row k pass e in subst Rests b.2 (hand_rests (hand_in b.0));
  }

  pass_numbers : (k : ℕ) (pass : Pass) → get_elem? (passes_in row) k ≡ some pass → number_of pass ≡ k
  pass_numbers k pass e = let b = at_map_back (λ (x : A). pass_of (hand_in x)) row k pass e in ap number_of (sym b.2) ∙ is_row.numbers k b.0 b.1

  -- they are in order
  pub passes_in_order : ends.IsInOrder n (passes_in row) (passes_in row)
  passes_in_order = record { count = length-map row (λ (x : A). pass_of (hand_in x)) ∙ is_row.count; numbers = pass_numbers; given = λ k pass e. (k, e) }

-- what is made of the passes of new cells, one after the other
module _ {A : Type 0} (pass_in : A → Pass) where
  seam_at : (made : List A) (pass : Pass) (rest : List Pass) → get_elem? (map pass_in made ++ pass ∷ rest) (length made) ≡ some pass
  seam_at [] pass rest = refl
  seam_at (m ∷ ms) pass rest = seam_at ms pass rest

  -- the pass that comes next is one of the passes
  pub next_at : (made : List A) (pass : Pass) (left rest all : List Pass) → left ≡ pass ∷ rest → map pass_in made ++ left ≡ all → get_elem? all (length made) ≡ some pass
  next_at made pass left rest all e h = ap (λ (l : List Pass). get_elem? l (length made)) (sym h ∙ ap (λ l. map pass_in made ++ l) e) ∙ seam_at made pass rest

  seam : (made : List A) (m : A) (rest : List Pass) → map pass_in (made ++ m ∷ []) ++ rest ≡ map pass_in made ++ pass_in m ∷ rest
  seam [] m rest = refl
  seam (x ∷ xs) m rest = ap (λ (l : List Pass). pass_in x ∷ l) (seam xs m rest)

  -- after one more was made, of the next pass, they are still all the passes
  pub one_made : (made new : List A) (m : A) (pass : Pass) (left rest all : List Pass) → new ≡ made ++ m ∷ [] → pass_in m ≡ pass → left ≡ pass ∷ rest → map pass_in made ++ left ≡ all → map pass_in new ++ rest ≡ all
  one_made made new m pass left rest all more of first h =
      ap (λ (l : List A). map pass_in l ++ rest) more ∙ seam made m rest ∙ ap (λ p. map pass_in made ++ p ∷ rest) of ∙ ap (λ (l : List Pass). map pass_in made ++ l) (sym first) ∙ h

  get_any : (xs : List A) (k : ℕ) (d e : A) → k < length xs → get_or xs k d ≡ get_or xs k e
  get_any [] k d e lt = absurd (omega (arith, lt))
  get_any (x ∷ xs) zero d e lt = refl
  get_any (x ∷ xs) (suc k) d e lt = get_any xs k d e (omega (arith, lt))

  -- all that were made of the new passes of cells work with these cells
  pub all_new : (table : Steps) (n count : ℕ) (made : List A) (passes : List Pass) → map pass_in made ≡ passes → AreNew table n passes → n ≡ count → All (λ (m : A). Works table count (pass_in m)) made
  all_new table n count made passes e new same k d lt =
      let there = at_map pass_in made k (get_or made k d) (at_value made k (get_or made k d) lt (get_any made k d (get_or made k d) lt)) in
      subst (λ c. Works table c (pass_in (get_or made k d))) same (new.new k (pass_in (get_or made k d)) (ap (λ (l : List Pass). get_elem? l k) (sym e) ∙ there)).works

-- one more is made, and one fewer pass is left
pub still_room : (made more left rest room : ℕ) → more ≡ made + 1 → left ≡ suc rest → made + left ≤ room → more + rest ≤ room
still_room made more left rest room e f h = omega arith

-- one more element, by another name
pub pushed_as : {A : Type 0} (done more : List A) (x y : A) → more ≡ done ++ x ∷ [] → x ≡ y → more ≡ done ++ y ∷ []
pushed_as {A} done more x y e same = e ∙ ap (λ (z : A). done ++ z ∷ []) same

-- what is taken apart, one after the other
module _ {M : Type 0} (m : M) (left rest : List M) (first : left ≡ m ∷ rest) where
  -- what was made of those before, and what will be made of the others
  pub moved : {A : Type 0} (f : M → A) (done more all : List A) → more ≡ done ++ f m ∷ [] → done ++ map f left ≡ all → more ++ map f rest ≡ all
  moved {A} f done more all e h =
      ap (λ (l : List A). l ++ map f rest) e ∙ append_assoc done (f m ∷ []) (map f rest) ∙ ap (λ (l : List M). done ++ map f l) (sym first) ∙ h

  -- there is still room for the others
  pub room_left : {A : Type 0} (done more : List A) (x : A) (room same : ℕ) → more ≡ done ++ x ∷ [] → same ≡ room → length done + length left ≤ room → length more + length rest ≤ same
  room_left done more x room same e is h =
      let long = ap length e ∙ length-append done (x ∷ []) in
      let fewer = ap length first in
      omega (arith, long, fewer)

  -- the words that those before allocated, and those of the others
  pub words_left : (pass_in : M → Pass) (words more all : ℕ) → more ≡ words + allocated (edition_of (pass_in m)) (did (pass_in m)) → words + allocated_by (map pass_in left) ≡ all → more + allocated_by (map pass_in rest) ≡ all
  words_left pass_in words more all e h =
      let here = ap (λ (l : List M). allocated_by (map pass_in l)) first in
      omega (arith, e, here, h)
