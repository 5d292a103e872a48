use Rattle.std.proofs.Common.{IfSome, subst}
use Rattle.std.proofs.lemmas.List.Elements.{All-pop}
use Rattle.cell_steps.specs.Passes.{Rests}
use Rattle.cell_steps.specs.declared.pass.Pass.{Pass}
use Rattle.page_cells.specs.CellViews.{IsPassOf}
use Rattle.test_heaps.proofs.cells.held_pages.two.Goals as goal

-- the pass belongs to these cells and holds no page
abbrev IsReady : (g : _) (c : goal.After-drop-passes g) → Pass → Type 0
IsReady g c pass = IsPassOf c.opened-cells.result.0 pass × Rests pass

pub returns-clause-second : goal.returns-clause-second
returns-clause-second g c =
    subst (λ m. IfSome m (IsReady g c)) c.expect-second.ensures (All-pop (IsReady g c) c.opened-cells.result.1.items c.pop.new.self.items c.pop.result c.pop.ensures.items c.opened-cells.ensures).1

pub returns-clause-first : goal.returns-clause-first
returns-clause-first g c =
    let rest = (All-pop (IsReady g c) c.opened-cells.result.1.items c.pop.new.self.items c.pop.result c.pop.ensures.items c.opened-cells.ensures).0 in
    subst (λ m. IfSome m (IsReady g c)) c.expect-first.ensures (All-pop (IsReady g c) c.pop.new.self.items c.pop-2.new.self.items c.pop-2.result c.pop-2.ensures.items rest).1
