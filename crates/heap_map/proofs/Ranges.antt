-- The pages of a cell of 2^k pages, as saturating sums and products find them.
use Rattle.std.proofs.Common.{◌≡◌, ◌⊎◌, ℕ, zero, suc, ◌+◌, ◌-◌, ◌*◌, ◌/◌, ◌^◌, ◌<◌, ◌≤◌, min, refl, ap, sym, ◌∙◌, inl, inr, arith}
use Rattle.std.proofs.Math.Nat.{div-mul-le_self, lt-div-mul-add, div-eq_of_lt}
use Rattle.std.proofs.lemmas.Bool.{cases_lt}
use Rattle.std.proofs.lemmas.Nat.{div-mul-add}

-- the pages that have this cell are those from its first one on, so many as a cell has
low : (p n cell : ℕ) → p / n ≡ cell → cell * n ≤ p
low p n cell same = omega (arith, div-mul-le_self p n, ap (λ (q : ℕ). q * n) same)

high : (p n cell : ℕ) → 0 < n → p / n ≡ cell → p < cell * n + n
high p n cell some same = omega (arith, lt-div-mul-add {a = p} {b = n} some, ap (λ (q : ℕ). q * n) same)

cell_is : (p n cell : ℕ) → cell * n ≤ p → p < cell * n + n → p / n ≡ cell
cell_is p n cell le lt =
    let rest : p - cell * n < n = omega arith in
    let whole : cell * n + (p - cell * n) ≡ p = omega arith in
    ap (λ (q : ℕ). q / n) (sym whole) ∙ div-mul-add cell n (p - cell * n) rest

-- a product below its second factor is 0 times it
none_of : (cell step : ℕ) → cell * step < step → cell ≡ 0
none_of zero step lt = refl
none_of (suc cell) step lt =
    let more : suc cell * step ≡ cell * step + step = omega arith in
    omega (arith, more, lt)

-- a page of the cell is among those that are looked at
pub looked_at : (p n cell step begin end pages : ℕ) → 0 < n → step ≡ min n 18446744073709551615 → begin ≡ min (cell * step) 18446744073709551615
    → end ≡ min (min (begin + step) 18446744073709551615) pages → pages < 2 ^ 57 → p < pages → p / n ≡ cell → (begin ≤ p) × (p < end)
looked_at p n cell step begin end pages some steps begins ends few lt same =
    elim (cases_lt 18446744073709551615 n) [
      | inl far ↦
          let zeroth : p / n ≡ 0 = div-eq_of_lt {n = p} {m = n} (omega arith) in
          let none : cell * step ≡ 0 * step = ap (λ (q : ℕ). q * step) (sym same ∙ zeroth) in
          (omega (arith, none), omega (arith, none))
      | inr near ↦
          let is : step ≡ n = omega arith in
          let all : cell * step ≡ cell * n = ap (λ (q : ℕ). cell * q) is in
          let from = low p n cell same in
          let to = high p n cell some same in
          (omega (arith, all, from, to), omega (arith, all, from, to))
    ]

-- those that are looked at are of the cell
pub of_cell : (p n cell step begin end pages : ℕ) → 0 < n → step ≡ min n 18446744073709551615 → begin ≡ min (cell * step) 18446744073709551615
    → end ≡ min (min (begin + step) 18446744073709551615) pages → pages < 2 ^ 57 → begin ≤ p → p < end → p / n ≡ cell
of_cell p n cell step begin end pages some steps begins ends few le lt =
    elim (cases_lt 18446744073709551615 n) [
      | inl far ↦
          let small : cell * step < step = omega arith in
          div-eq_of_lt {n = p} {m = n} (omega arith) ∙ sym (none_of cell step small)
      | inr near ↦
          let is : step ≡ n = omega arith in
          let all : cell * step ≡ cell * n = ap (λ (q : ℕ). cell * q) is in
          cell_is p n cell (omega (arith, all)) (omega (arith, all))
    ]
