use Rattle.std.proofs.Common.{◌≡◌, ℕ, ◌<◌, ◌≤◌, Err, arith, inl, inr, length, get_or}
use Rattle.std.proofs.lemmas.Bool.{cases_lt}
use Rattle.std.proofs.lemmas.List.Sorted.{searched}
use Rattle.comp_dump.proofs.sparse_pages.place_of.Goals as goal

pub returns-in-Err-clause-missed : goal.returns-in-Err-clause-missed
returns-in-Err-clause-missed c none i lt is =
    let place : ℕ = c.in-Err.field-0 in
    let rising : (k j : ℕ) → k ≤ j → j < length c.args.numbers.now → get_or c.args.numbers.now k 0 ≤ get_or c.args.numbers.now j 0 =
    λ k j le under. elim (cases_lt k j) [
      | inl less ↦ omega (arith, c.requires k j less under)
      | inr same ↦ let e : k ≡ j = omega (arith, le, same) in rw e (omega arith)
    ] in
    let found = searched c.args.numbers.now c.args.number (Err place) c.in-Err.ensures.position rising in
    elim (cases_lt i place) [
      | inl before ↦ omega (arith, found.1 i before, is)
      | inr behind ↦ omega (arith, found.2 i behind lt, is)
    ]
