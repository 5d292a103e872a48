-- A memory is cut into pages.
use Rattle.std.proofs.Common.{◌≡◌, ℕ, suc, ◌+◌, ◌-◌, ◌*◌, ◌<◌, min, List, [], ◌∷◌, ◌++◌, Some, length, length-append, sym, ap, ◌∙◌, arith, suc-mul}
use Rattle.std.specs.Borrow.{MutBor}
use mathlib.Core.Logic.{dite}
use native.Mathlib.Decide.{dec_le, ℕ_discrete}
use native.Mathlib.Nat.{min-eq_left, min_comm}
use Rattle.atomic_table.proofs.Lists.{at_last, at_longer}
use Rattle.first_touch.specs.Asked.{Asked}
use Rattle.first_touch.specs.Pages.{Slot}
use Rattle.first_touch.specs.Rows.{AreRows}

-- what is left behind a page
left_over : (n s r b l a : ℕ) → n ≡ min s r → b + n ≡ r → r ≡ l - a → b ≡ l - (a + s)
left_over n s r b l a least sum rest = dite (dec_le s r)
    (λ le. let is : min s r ≡ s = min-eq_left le in omega (arith, least, sum, rest, is, le))
    (λ more. let is : min s r ≡ r = min_comm s r ∙ min-eq_left (omega (arith, more)) in
    omega (arith, least, sum, rest, is, more))

module _ (asked : Asked) (rows : List Slot) (page : MutBor (List ℕ)) (rest : ℕ)
    (left : rest ≡ length asked.found.indices - length rows * asked.size)
    (long : length page.now ≡ min asked.size rest) where
  pub rows_more : AreRows asked rows → AreRows asked (rows ++ Some page ∷ [])
  rows_more are k lt = dite (ℕ_discrete k (length rows))
      (λ is.
      let rest_is = left ∙ ap (λ (n : ℕ). length asked.found.indices - n * asked.size) (sym is) in
      (page, at_last rows (Some page) k (sym is), long ∙ ap (min asked.size) rest_is))
      (λ ne.
      let was = are k (let many = length-append rows (Some page ∷ []) in omega (arith, lt, ne, many)) in
      (was.0, at_longer rows (Some page ∷ []) k (Some was.0) was.1, was.2))

  pub some_more : 0 < rest → ((k : ℕ) → k < length rows → k * asked.size < length asked.found.indices)
      → (k : ℕ) → k < length (rows ++ Some page ∷ []) → k * asked.size < length asked.found.indices
  some_more some_ each k lt = dite (ℕ_discrete k (length rows))
      (λ is. let same = ap (λ (n : ℕ). n * asked.size) is in omega (arith, some_, left, same))
      (λ ne. each k (let many = length-append rows (Some page ∷ []) in omega (arith, lt, ne, many)))

  pub left_more : (behind n : ℕ) → n ≡ min asked.size rest → behind + n ≡ rest
      → behind ≡ length asked.found.indices - length (rows ++ Some page ∷ []) * asked.size
  left_more behind n least sum =
      let all = length-append rows (Some page ∷ []) in
      let many : length (rows ++ Some page ∷ []) ≡ suc (length rows) = omega (arith, all) in
      let product = ap (λ (m : ℕ). m * asked.size) many in
      let more = suc-mul (length rows) asked.size in
      let live = length asked.found.indices in
      let over = left_over n asked.size rest behind live (length rows * asked.size) least sum left in
      omega (arith, over, product, more)
