-- Roots that are handed in at the end of a cycle.
use Rattle.std.proofs.Common.{◌≡◌, ℕ, suc, ◌+◌, ◌-◌, ◌^◌, ◌<◌, ◌≤◌, ◌⊎◌, ◌||◌, Bool, true, false, cond, eqb, leb, Option, Some, None, List, [], ◌∷◌, All, length, get_or, map, refl, sym, ap, ap₂, ◌∙◌, inl, inr, ⊎_elim, subst, arith, eqb-true, eq-eqb, le-leb}
use Rattle.std.specs.Option.{option_map}
use Rattle.std.proofs.lemmas.Bool.{cases_Bool, both_ways, leb-true, or_cases, or_left, or_right}
use Rattle.std.proofs.lemmas.List.{length-map, get_or-map}
use Rattle.heap_layout.specs.declared.edition.Edition.{Edition}
use Rattle.heap_layout.specs.declared.edition.Edition.TheVariants.{One, Two, Three, Four}
use Rattle.heap_layout.specs.Values.{is_immediate, IsImmediate}
use Rattle.heap_layout.proofs.Values.{no-immediate, nowhere-null, nowhere-immediate, value-cases}
use Rattle.heap_layout.specs.Heap.{Object, from_address, IsTarget, IsValue, IsClosed}
use Rattle.page_plan.specs.Sliding.{number_of, new_address, forward, forward_value, to_address}
use Rattle.comp_history.specs.Setup.{Setup}
use Rattle.comp_history.specs.Locks.{Journals}
use Rattle.comp_history.specs.Objects.{IsObjectAt, LeadsToObject}
use Rattle.comp_history.specs.Merged.{CanMerge}
use Rattle.comp_cycles.specs.NextHeap.{held, lowered, next_heap, next_faults}
use Rattle.comp_cycles.proofs.Immediates.{lower-immediate}
use Rattle.comp_cycles.proofs.Targets.{target_cases}
use Rattle.comp_cycles.proofs.Finals.{is_object}
use Rattle.comp_cycles.proofs.Rows.{marked_objects, next_closed}

-- null, or a to-space address
abbrev pub IsHigh : ℕ → Type 0
IsHigh a = (a ≡ 0) ⊎ (2 ^ 33 ≤ a)

test_high : (a : ℕ) → (eqb a 0 || leb (2 ^ 33) a) ≡ true → IsHigh a
test_high a is = ⊎_elim
    (λ (null : eqb a 0 ≡ true). inl (eqb-true a 0 null))
    (λ (high : leb (2 ^ 33) a ≡ true). inr (leb-true (2 ^ 33) a high))
    (or_cases (eqb a 0) (leb (2 ^ 33) a) is)

high_test : (a : ℕ) → IsHigh a → (eqb a 0 || leb (2 ^ 33) a) ≡ true
high_test a (inl null) = or_left (eqb a 0) (leb (2 ^ 33) a) (eq-eqb a 0 null)
high_test a (inr high) = or_right (eqb a 0) (leb (2 ^ 33) a) (le-leb (2 ^ 33) a high)

-- null and to-space addresses stay
pub held_high : (a : ℕ) → IsHigh a → held a ≡ a
held_high a high = ap (λ b. cond b a (2 ^ 32 + 1)) (high_test a high)

-- any other word becomes one that is lowered to 1
pub held_cases : (a : ℕ) → ((held a ≡ a) × IsHigh a) ⊎ (held a ≡ 2 ^ 32 + 1)
held_cases a = ⊎_elim
    (λ (is : (eqb a 0 || leb (2 ^ 33) a) ≡ true). inl (held_high a (test_high a is), test_high a is))
    (λ (is : (eqb a 0 || leb (2 ^ 33) a) ≡ false). inr (ap (λ b. cond b a (2 ^ 32 + 1)) is))
    (cases_Bool (eqb a 0 || leb (2 ^ 33) a))

pub held_low : (a : ℕ) → 0 < a → a < 2 ^ 33 → held a ≡ 2 ^ 32 + 1
held_low a up low = ⊎_elim
    (λ (same : (held a ≡ a) × IsHigh a). absurd (⊎_elim (λ (null : a ≡ 0). omega (arith, null, up)) (λ (high : 2 ^ 33 ≤ a). omega (arith, high, low)) same.1))
    (λ (other : held a ≡ 2 ^ 32 + 1). other)
    (held_cases a)

pub all_held : (roots : List ℕ) → ((i : ℕ) → i < length roots → held (get_or roots i 0) ≡ get_or roots i 0) → map held roots ≡ roots
all_held [] same = refl
all_held (root ∷ roots) same = ap₂ (λ (a : ℕ) (l : List ℕ). a ∷ l) (same 0 (omega arith)) (all_held roots (λ i lt. same (suc i) (omega (arith, lt))))

-- two maps, one after the other
pub lowered_twice : (edition : Edition) (roots : List ℕ) → map (lowered edition) (map held roots) ≡ map (λ (a : ℕ). lowered edition (held a)) roots
lowered_twice edition [] = refl
lowered_twice edition (root ∷ roots) = ap (λ (l : List ℕ). lowered edition (held root) ∷ l) (lowered_twice edition roots)

-- ---- the roots of the flipped heap, forwarded

some_is : (x y : ℕ) → Some x ≡ Some y → x ≡ y
some_is x y e = cc

mapped_high : (objects : List Object) (x : ℕ) (o : Option ℕ) → Some x ≡ option_map (new_address objects) o → IsHigh x
mapped_high objects x None e = absurd (cc)
mapped_high objects x (Some k) e = let same = some_is x (new_address objects k) e in inr (omega (arith, same))

forward_high : (objects : List Object) (r x : ℕ) → Some x ≡ forward objects r → IsHigh x
forward_high objects r x e = ⊎_elim
    (λ (null : eqb r 0 ≡ true). inl (some_is x 0 (e ∙ ap (λ (b : Bool). cond b (Some 0) (option_map (new_address objects) (number_of objects r))) null)))
    (λ (other : eqb r 0 ≡ false). mapped_high objects x (number_of objects r) (e ∙ ap (λ (b : Bool). cond b (Some 0) (option_map (new_address objects) (number_of objects r))) other))
    (cases_Bool (eqb r 0))

-- an immediate is high too
pub immediate_high : (edition : Edition) (x : ℕ) → IsImmediate edition x → IsHigh x
immediate_high One x is = absurd (let no : false ≡ true = is in cc)
immediate_high Two x is = absurd (let no : false ≡ true = is in cc)
immediate_high Three x is = absurd (let no : false ≡ true = is in cc)
immediate_high Four x is = inr (let high = leb-true (2 ^ 63) x is in omega (arith, high))

value_high : (edition : Edition) (objects : List Object) (r x : ℕ) → Some x ≡ forward_value edition objects r → IsHigh x
value_high edition objects r x e = ⊎_elim
    (λ (immediate : is_immediate edition r ≡ true).
    let same = some_is x r (e ∙ ap (λ b. cond b (Some r) (forward objects r)) immediate) in
    immediate_high edition x (ap (is_immediate edition) same ∙ immediate))
    (λ (other : is_immediate edition r ≡ false). forward_high objects r x (e ∙ ap (λ b. cond b (Some r) (forward objects r)) other))
    (cases_Bool (is_immediate edition r))

-- each is null, an immediate or a to-space address
pub own_held : (edition : Edition) (xs rs : List ℕ) (objects : List Object) → map (λ (x : ℕ). Some x) xs ≡ map (forward_value edition objects) rs → map held xs ≡ xs
own_held edition [] rs objects e = refl
own_held edition (x ∷ xs) [] objects e = absurd (cc)
own_held edition (x ∷ xs) (r ∷ rs) objects e =
    let head : Some x ≡ forward_value edition objects r = cc in
    let tail : map (λ (y : ℕ). Some y) xs ≡ map (forward_value edition objects) rs = cc in
    ap₂ (λ (a : ℕ) (l : List ℕ). a ∷ l) (held_high x (value_high edition objects r x head)) (own_held edition xs rs objects tail)

-- ---- roots of an accepted heap

module _ (u : Setup) (journals : Journals) (closed : IsClosed u.heap) (can : CanMerge u journals) (roots marks : List ℕ) (none : next_faults u journals (next_heap u journals (map held roots) marks) ≡ []) where
  after_closed : IsClosed (next_heap u journals (map held roots) marks)
  after_closed = next_closed u journals closed can (map held roots) marks none

  abbrev low : ℕ → ℕ
  low = lowered u.heap.edition

  value_is : (i d : ℕ) → i < length roots → IsValue u.heap.edition marks (low (held (get_or roots i d)))
  value_is i d lt =
      let long = length-map roots held in
      let all = length-map (map held roots) (lowered u.heap.edition) in
      subst (IsValue u.heap.edition marks) (get_or-map (lowered u.heap.edition) (map held roots) i 0 0 (omega (arith, lt, long)) ∙ ap (lowered u.heap.edition) (get_or-map held roots i d 0 lt)) (after_closed.roots i 0 (omega (arith, lt, long, all)))

  -- a root that is no immediate is null or the start of a marked object
  target_root : (a : ℕ) → IsTarget marks (held a - 2 ^ 32) → (held a ≡ a) × LeadsToObject u journals a
  target_root a target = ⊎_elim
      (λ (same : (held a ≡ a) × IsHigh a). ⊎_elim
      (λ (null : a ≡ 0). (same.0, inl (nowhere-null u.heap.edition a null)))
      (λ (high : 2 ^ 33 ≤ a).
      let stays = same.0 in
      ⊎_elim
      (λ (none_is : held a - 2 ^ 32 ≡ 0). absurd (omega (arith, none_is, stays, high)))
      (λ (found : (l : ℕ) × (l < length marks) × (from_address (get_or marks l 0) ≡ held a - 2 ^ 32)).
      let m = marked_objects u journals closed can (map held roots) marks none found.0 found.1 in
      let at = found.2 in
      let here : to_address (get_or marks found.0 0) ≡ a = omega (arith, at, stays, high) in
      (stays, inr (subst (IsObjectAt u journals) here (is_object u journals closed can (get_or marks found.0 0) m.0 m.1))))
      (target_cases marks (held a - 2 ^ 32) target))
      same.1)
      (λ (other : held a ≡ 2 ^ 32 + 1). absurd (⊎_elim
      (λ (none_is : held a - 2 ^ 32 ≡ 0). omega (arith, none_is, other))
      (λ (found : (l : ℕ) × (l < length marks) × (from_address (get_or marks l 0) ≡ held a - 2 ^ 32)). let at = found.2 in omega (arith, at, other))
      (target_cases marks (held a - 2 ^ 32) target)))
      (held_cases a)

  -- a root is null, an immediate or the start of a marked object
  root_is : (a : ℕ) → IsValue u.heap.edition marks (low (held a)) → (held a ≡ a) × LeadsToObject u journals a
  root_is a value = ⊎_elim
      (λ (immediate : is_immediate u.heap.edition (held a) ≡ true).
      ⊎_elim
      (λ (same : (held a ≡ a) × IsHigh a). (same.0, inl (nowhere-immediate u.heap.edition a (ap (is_immediate u.heap.edition) (sym same.0) ∙ immediate))))
      (λ (other : held a ≡ 2 ^ 32 + 1). absurd (no-immediate u.heap.edition (held a) (omega (arith, other)) immediate))
      (held_cases a))
      (λ (other : is_immediate u.heap.edition (held a) ≡ false).
      let is : lowered u.heap.edition (held a) ≡ held a - 2 ^ 32 = ap (λ b. cond b (held a) (held a - 2 ^ 32)) other in
      target_root a (⊎_elim
      (λ (immediate : is_immediate u.heap.edition (held a - 2 ^ 32) ≡ true).
      absurd (both_ways (is_immediate u.heap.edition (held a - 2 ^ 32)) (lower-immediate u.heap.edition (held a) (held a - 2 ^ 32) (omega arith) other) immediate))
      (λ (target : IsTarget marks (held a - 2 ^ 32)). target)
      (value-cases u.heap.edition marks (held a - 2 ^ 32) (subst (IsValue u.heap.edition marks) is value))))
      (cases_Bool (is_immediate u.heap.edition (held a)))

  pub roots_held : map held roots ≡ roots
  roots_held = all_held roots (λ i lt. (root_is (get_or roots i 0) (value_is i 0 lt)).0)

  pub roots_lead : All (LeadsToObject u journals) roots
  roots_lead = λ i d lt. (root_is (get_or roots i d) (value_is i d lt)).1
