use Rattle.std.proofs.Common.{◌<◌, map, subst, sym}
use Rattle.page_cells.specs.CellViews.{steps_of, AreNew}
use Rattle.comp_mutator.specs.Mutators.{cells_of, pass_of, setup_of}
use Rattle.proved_clients.proofs.AfterSweeps.{still_row, there}
use Rattle.proved_clients.proofs.swept.sweep_and_finish.Goals as goal

pub returns-in-Ok-finish : goal.returns-in-Ok-finish
returns-in-Ok-finish g c = λ p lt.
    let space = c.in-Ok.space in
    let given = c.in-Ok.mutators.items in
    let back = c.in-Ok-sweep.report.mutators.items in
    let new = subst (λ n. AreNew (steps_of (cells_of space)) n (map pass_of given)) (sym c.in-Ok.ensures.mutators) c.in-Ok.ensures.new in
    let row = still_row space (setup_of space).mutators given back new c.in-Ok-sweep.ensures.back in
    let sees = c.in-Ok-sweep.ensures.built p (subst (λ n. p < n) (sym c.in-Ok.ensures.compacted) lt) in
    there (setup_of space) back c.in-Ok-finish.finished p sees (c.in-Ok-finish.ensures.ordered row)
