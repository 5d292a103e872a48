-- The numbers that a row of places has for addresses.
use Rattle.std.proofs.Common.{◌≡◌, ℕ, zero, suc, ◌<◌, ◌≢◌, ◌⊎◌, cond, List, [], ◌∷◌, length, refl, sym, ap, ◌∙◌, inl, inr, ⊎_elim, arith, eq-eqb, ne_eqb}
use Rattle.std.proofs.lemmas.Bool.{cases_eq}
use Rattle.page_plan.specs.Sliding.{to_address}
use Rattle.comp_history.specs.Lists.{look}
use Rattle.moved_heaps.specs.MovedNumbers.{pairs_at}
use Rattle.moved_heaps.specs.Ordered.{pair_at}

-- the number at the first place that has an address
pub named : (row : List (ℕ × ℕ)) (k a : ℕ) → k < length row → to_address (pair_at row k).0 ≡ a → ((i : ℕ) → i < k → to_address (pair_at row i).0 ≡ a → ⊥) → look 0 (pairs_at row) a ≡ (pair_at row k).1
named [] k a lt e none = absurd (omega (arith, lt))
named (x ∷ row) zero a lt e none = ap (λ t. cond t x.1 (look 0 (pairs_at row) a)) (eq-eqb a (to_address x.0) (sym e))
named (x ∷ row) (suc k) a lt e none =
    ap (λ t. cond t x.1 (look 0 (pairs_at row) a)) (ne_eqb a (to_address x.0) (λ q. none 0 (omega arith) (sym q)))
    ∙ named row k a (omega (arith, lt)) e (λ i l h. none (suc i) (omega (arith, l)) h)

-- an address that no place has gets the number 0
pub unnamed : (row : List (ℕ × ℕ)) (a : ℕ) → ((i : ℕ) → i < length row → to_address (pair_at row i).0 ≡ a → ⊥) → look 0 (pairs_at row) a ≡ 0
unnamed [] a none = refl
unnamed (x ∷ row) a none =
    ap (λ t. cond t x.1 (look 0 (pairs_at row) a)) (ne_eqb a (to_address x.0) (λ q. none 0 (omega arith) (sym q)))
    ∙ unnamed row a (λ i l h. none (suc i) (omega (arith, l)) h)

-- the first place with an address
pub record IsFirstAt (row : List (ℕ × ℕ)) (a k : ℕ) : Type 0 where
  pub inside : k < length row
  pub here : to_address (pair_at row k).0 ≡ a
  pub before : (i : ℕ) → i < k → to_address (pair_at row i).0 ≡ a → ⊥

-- an address has a first place, or none
pub sought : (row : List (ℕ × ℕ)) (a : ℕ) → ((k : ℕ) × IsFirstAt row a k) ⊎ ((i : ℕ) → i < length row → to_address (pair_at row i).0 ≡ a → ⊥)
sought [] a = inr (λ i lt e. omega (arith, lt))
sought (x ∷ row) a = ⊎_elim
    (λ (same : to_address x.0 ≡ a). inl (0, record { inside = omega arith; here = same; before = λ i lt e. omega (arith, lt) }))
    (λ (other : to_address x.0 ≢ a). ⊎_elim
    (λ (rest : (k : ℕ) × IsFirstAt row a k). inl (
      suc rest.0,
      record {
        inside = omega (arith, rest.1.inside);
        here = rest.1.here;
        before = λ i lt e. later i other (λ j below q. rest.1.before j below q) (omega (arith, lt)) e;
      },
    ))
    (λ (none : (i : ℕ) → i < length row → to_address (pair_at row i).0 ≡ a → ⊥). inr (λ i lt e. later i other none (omega (arith, lt)) e))
    (sought row a))
    (cases_eq (to_address x.0) a)
  where
    later : {n : ℕ} (i : ℕ) → to_address x.0 ≢ a → ((j : ℕ) → j < n → to_address (pair_at row j).0 ≡ a → ⊥) → i < suc n → to_address (pair_at (x ∷ row) i).0 ≡ a → ⊥
    later zero other none lt e = other e
    later (suc i) other none lt e = none i (omega (arith, lt)) e
