use Rattle.std.proofs.Common.{ℕ, sym, subst}
use Rattle.cell_steps.proofs.Sums.{there_at, read_at}
use Rattle.cell_steps.specs.Passes.{Rests}
use Rattle.page_cells.specs.CellViews.{Works, IsPassOf}
use Rattle.test_heaps.proofs.cells.passes_at_once.opened.Goals as goal

pub returns : goal.returns
returns g c k d within =
    let items = c.in-Ok.opened.1.items in
    let here = there_at items k within in
    let new = c.in-Ok.ensures.passes.new k here.0 here.1 in
    let ready : IsPassOf c.in-Ok.opened.0 here.0 × Rests here.0 = (subst (λ (n : ℕ). Works c.in-Ok.opened.0.steps n here.0) (sym c.in-Ok.ensures.mutators) new.works, new.rests) in
    subst (λ pass. IsPassOf c.in-Ok.opened.0 pass × Rests pass) (sym (read_at items k here.0 d here.1)) ready
