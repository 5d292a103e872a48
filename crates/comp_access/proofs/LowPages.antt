-- The index from which the search for room starts, for each size.
use Rattle.std.proofs.Common.{◌≡◌, ℕ, zero, suc, ◌+◌, ◌<◌, ◌≤◌, List, length, replicate, get_or, set, refl, sym, subst, arith, inl, inr, length-set, get_or-set_other, get_or-set_same}
use Rattle.std.proofs.lemmas.Bool.{cases_eq}
use Rattle.comp_access.specs.Allocations.{AreLow}

-- noting another index for one size
pub low_noted : (fills lows : List ℕ) (size index : ℕ) → size < length lows → index ≤ length fills → ((i : ℕ) → i < index → 64 < get_or fills i 0 + size) → AreLow fills lows → AreLow fills (set lows size index)
low_noted fills lows size index inside within full h = record {
  within = λ s. elim (cases_eq s size) [
    | inl same ↦ subst (λ (k : ℕ). get_or (set lows size index) k 0 ≤ length fills) (sym same) (subst (λ (k : ℕ). k ≤ length fills) (sym (get_or-set_same lows size index 0 inside)) within)
    | inr ne ↦ subst (λ (k : ℕ). k ≤ length fills) (sym (get_or-set_other lows size s index 0 ne)) (h.within s)
  ];
  full = λ s i lt. elim (cases_eq s size) [
    | inl same ↦
        let below : i < index = subst (λ (k : ℕ). i < k) (get_or-set_same lows size index 0 inside) (subst (λ (k : ℕ). i < get_or (set lows size index) k 0) same lt) in
        subst (λ (k : ℕ). 64 < get_or fills i 0 + k) (sym same) (full i below)
    | inr ne ↦ h.full s i (subst (λ (k : ℕ). i < k) (get_or-set_other lows size s index 0 ne) lt)
  ];
}

-- using more words of one page
pub low_filled : (fills lows : List ℕ) (index more : ℕ) → index < length fills → get_or fills index 0 ≤ more → AreLow fills lows → AreLow (set fills index more) lows
low_filled fills lows index more inside le h = record {
  within = λ s. omega (arith, h.within s, length-set fills index more);
  full = λ s i lt. elim (cases_eq i index) [
    | inl same ↦
        let before : 64 < get_or fills index 0 + s = subst (λ (k : ℕ). 64 < get_or fills k 0 + s) same (h.full s i lt) in
        subst (λ (k : ℕ). 64 < get_or (set fills index more) k 0 + s) (sym same) (omega (arith, before, le, get_or-set_same fills index more 0 inside))
    | inr ne ↦ subst (λ (k : ℕ). 64 < k + s) (sym (get_or-set_other fills index i more 0 ne)) (h.full s i lt)
  ];
}

zeros : (n s : ℕ) → get_or (replicate {A = ℕ} n 0) s 0 ≡ 0
zeros zero zero = refl
zeros zero (suc s) = refl
zeros (suc n) zero = refl
zeros (suc n) (suc s) = zeros n s

-- before anything is noted
pub low_none : (fills : List ℕ) (n : ℕ) → AreLow fills (replicate n 0)
low_none fills n = record {
  within = λ s. omega (arith, zeros n s);
  full = λ s i lt. absurd (omega (arith, zeros n s, lt));
}
