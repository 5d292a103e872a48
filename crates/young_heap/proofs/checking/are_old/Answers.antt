use Rattle.std.proofs.Common.{◌<◌, eqb, inl, inr, arith}
use Rattle.std.proofs.lemmas.Bool.{both_ways, cases_eq, eq-eqb}
use Rattle.young_heap.proofs.checking.are_old.Goals as goal

pub returns-clause-no_row : goal.returns-clause-no_row
returns-clause-no_row c = λ no all.
    let end = c.row_end.result in
    let old = c.args.old in
    let less : end < old = elim (cases_eq end old) [
      | inl same ↦ absurd (both_ways (eqb end old) no (eq-eqb end old same))
      | inr other ↦ omega (arith, other, c.row_end.ensures.within)
    ] in
    (c.row_end.ensures.last less).last old less (omega arith) all
