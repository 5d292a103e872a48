-- The steps on the lanes keep the rule.
use Rattle.std.proofs.Common.{◌≡◌, ℕ, ◌<◌, zero, suc, List, [], ◌∷◌, All, length, map, replicate, get_or, set, sym, refl, ap, ◌∙◌, subst, ⊎_elim, arith, length-set, get_or-set_other, get_or-set_same}
use Rattle.std.proofs.lemmas.List.{length-map, length-replicate}
use Rattle.std.proofs.lemmas.List.Elements.{All-head, All-tail}
use mathlib.Core.Option.{some, none, some-injective, some-ne-none}
use mathlib.Core.Logic.{dite}
use native.Mathlib.Decide.{ℕ_discrete}
use lib.ListN.{get_elem?}
use Rattle.atomic_table.specs.Table.{State, Act, Allows, Arrives, Final, opening, step}
use Rattle.atomic_table.specs.Table as act
use Rattle.atomic_table.proofs.Lists.{at_set, set_here, set_else, some_there}
use Rattle.mark_job.specs.Asked.{Asked, AreMetIn}
use Rattle.mark_job.specs.Lanes.{Holds, HoldsOf, IsHome, takes_of, puts}

-- a word that was written
word-here : (words : List ℕ) (k n : ℕ) → k < length words → get_or (set words k n) k 0 ≡ n
word-here words k n inside = get_or-set_same words k n 0 inside

module _ {V : Type 0} (Fits : List ℕ → Type 0) (s : State (List ℕ) V) (h : HoldsOf Fits s) (k : ℕ) (inside : k < length s.homes) where
  -- what is at home after lane k was taken was so before
  home-else : (views : List V) → (j : ℕ) → j < length (set s.homes k none) → get_or (set s.words k 1) j 0 ≡ 0
      → IsHome (record { words = set s.words k 1; homes = set s.homes k none; views = views }) j
  home-else views j lt free = dite (ℕ_discrete j k)
      (λ same. absurd (let one = word-here s.words k 1 (omega (arith, h.many)) in let at = ap (λ (n : ℕ). get_or (set s.words k 1) n 0) same in omega (arith, one, at, free)))
      (λ other.
      let was = h.home j (omega (arith, length-set s.homes k none)) (sym (get_or-set_other s.words k j 1 0 other) ∙ free) in
      (was.0, set_else s.homes k j none other ∙ was.1))

  pub taken : (views : List V) → HoldsOf Fits (record { words = set s.words k 1; homes = set s.homes k none; views = views })
  taken views = record {
    many = length-set s.words k 1 ∙ h.many ∙ sym (length-set s.homes k none);
    reached = λ j lane at. ⊎_elim (λ here. absurd (some-ne-none lane (sym here.1))) (λ there. h.reached j lane there.1) (at_set s.homes k j none (some lane) at);
    home = home-else views;
  }

  -- a lane that is out stays out
  pub missed : (views : List V) → HoldsOf Fits (record { words = set s.words k 1; homes = s.homes; views = views })
  missed views = record {
    many = length-set s.words k 1 ∙ h.many;
    reached = h.reached;
    home = λ j lt free. dite (ℕ_discrete j k)
        (λ same. absurd (let one = word-here s.words k 1 (omega (arith, h.many)) in let at = ap (λ (n : ℕ). get_or (set s.words k 1) n 0) same in omega (arith, one, at, free)))
        (λ other. h.home j lt (sym (get_or-set_other s.words k j 1 0 other) ∙ free));
  }

  -- a lane comes back
  pub back : (views : List V) (lane : List ℕ) → Fits lane → HoldsOf Fits (record { words = set s.words k 0; homes = set s.homes k (some lane); views = views })
  back views lane met = record {
    many = length-set s.words k 0 ∙ h.many ∙ sym (length-set s.homes k (some lane));
    reached = λ j other at. ⊎_elim (λ here. subst Fits (some-injective lane other (some-injective (some lane) (some other) (ap some here.1))) met) (λ there. h.reached j other there.1) (at_set s.homes k j (some lane) (some other) at);
    home = λ j lt free. dite (ℕ_discrete j k)
        (λ same. (lane, ap (get_elem? (set s.homes k (some lane))) same ∙ set_here s.homes k (some lane) inside))
        (λ differs.
        let was = h.home j (omega (arith, length-set s.homes k (some lane))) (sym (get_or-set_other s.words k j 0 0 differs) ∙ free) in
        (was.0, set_else s.homes k j (some lane) differs ∙ was.1));
  }

pub take-allowed : {V : Type 0} (Fits : V → List ℕ → Type 0) (v : V) (n k : ℕ) → k < n
    → Arrives (HoldsOf (Fits v)) n k (λ _. 1) (takes_of Fits (step n k 1 0 none) (v, []))
take-allowed Fits v n k inside = λ s h many bound.
    let within : k < length s.homes = omega (arith, many, inside) in
    dite (ℕ_discrete (get_or s.words k 0) 0)
    (λ free. let there = h.home k within free in (v, act.takes k there.0, there.1, taken (Fits v) s h k within _, λ _. (there.0, refl, h.reached k there.0 there.1)))
    (λ busy. (v, act.keeps, tt, missed (Fits v) s h k within _, λ free. absurd (busy free)))

pub put-allowed : {V : Type 0} (Fits : List ℕ → Type 0) (n id k : ℕ) (v : V) (lane : List ℕ) → k < n → Fits lane
    → Allows (HoldsOf Fits) n id (v, (k, lane) ∷ []) k (λ _. 0) (λ _. puts (step n k 0 0 none) (v, (k, lane) ∷ []) 0)
put-allowed Fits n id k v lane inside met = λ s h many at bound.
    let within : k < length s.homes = omega (arith, many, inside) in
    (v, act.gives, tt, back Fits s h k within _ lane met, tt)

-- a lane of the rows at the beginning
pub at-rows : (P : List ℕ → Type 0) (rows : List (List ℕ)) (k : ℕ) (lane : List ℕ) → All P rows → get_elem? (map some rows) k ≡ some (some lane) → P lane
at-rows P [] k lane all at = absurd (some-ne-none (some lane) (sym at))
at-rows P (x ∷ xs) zero lane all at = subst P (some-injective x lane (some-injective (some x) (some lane) at)) (All-head P x xs all)
at-rows P (x ∷ xs) (suc k) lane all at = at-rows P xs k lane (All-tail P x xs all) at

pub opens : {V : Type 0} (Fits : List ℕ → Type 0) (v : V) (rows : List (List ℕ)) (words : List ℕ) → words ≡ replicate 64 0 → length rows ≡ 64
    → ((k : ℕ) (lane : List ℕ) → get_elem? (map some rows) k ≡ some (some lane) → Fits lane) → HoldsOf Fits (opening words rows v)
opens Fits v rows words zeros count all = record {
  many = ap (λ (ws : List ℕ). length ws) zeros ∙ length-replicate {A = ℕ} 64 0 ∙ sym count ∙ sym (length-map rows some);
  reached = all;
  home = λ k lt free. some_there rows k (omega (arith, length-map rows some));
}

-- a word by its place
pub at-word : (words : List ℕ) (k n : ℕ) → get_elem? words k ≡ some n → get_or words k 0 ≡ n
at-word [] k n at = absurd (some-ne-none n (sym at))
at-word (x ∷ xs) zero n at = some-injective x n at
at-word (x ∷ xs) (suc k) n at = at-word xs k n at

-- an element is within its list
at-inside : {A : Type 0} (xs : List A) (k : ℕ) (a : A) → get_elem? xs k ≡ some a → k < length xs
at-inside [] k a at = absurd (some-ne-none a (sym at))
at-inside (x ∷ xs) zero a at = omega arith
at-inside (x ∷ xs) (suc k) a at = let within = at-inside xs k a at in omega (arith, within)

-- a lane whose word is 0 at the end
pub ends : (asked : Asked) (words : List ℕ) (rows : List (List ℕ)) (k : ℕ) (lane : List ℕ) → Final (Holds asked) words rows
    → get_elem? words k ≡ some 0 → get_elem? rows k ≡ some lane → AreMetIn asked lane
ends asked words rows k lane final free at =
    let s = final.0 in
    let h = final.1 in
    let inside = at-inside rows k lane at in
    let home = h.home k (omega (arith, final.3, inside)) (ap (λ (ws : List ℕ). get_or ws k 0) final.2 ∙ at-word words k 0 free) in
    subst (AreMetIn asked) (some-injective home.0 lane (sym (final.4 k home.0 home.1) ∙ at)) (h.reached k home.0 home.1)
