use Rattle.std.proofs.Common.{◌≡◌, List, [], ◌∷◌, ◌++◌, sym, ap, ◌∙◌, subst, rules, is_ok, if◌then◌else◌}
use Rattle.cell_steps.specs.Passes.{Rests}
use Rattle.cell_steps.specs.declared.pass.Pass.{Pass}
use Rattle.page_cells.specs.CellViews.{mutators_of, Works}
use Rattle.page_cells.specs.CellEnds.{AllRest}
use Rattle.cell_steps.proofs.Sums.{each-one, each-append}
use Rattle.test_heaps.proofs.cells.held_pages.close_late.Goals as goal

pub close-requires-2-after_bounds : goal.close-requires-2-after_bounds
close-requires-2-after_bounds g c κs within =
    let cells = c.args.cells in
    let first = c.args.first in
    let second = c.args.second in
    let alone : c.expect-alone.result.items ≡ second ∷ [] = search rules in
    let left = c.in-Err.left.passes.items in
    let pushed : c.push.new.self.items ≡ left ++ first ∷ [] = subst (λ r. c.push.new.self.items ≡ (if is_ok r then left ++ first ∷ [] else left)) c.expect.ensures c.push.ensures.items in
    let all : c.push.new.self.items ≡ second ∷ first ∷ [] = pushed ∙ ap (λ (l : List Pass). l ++ first ∷ []) (c.in-Err.ensures.back.1 ∙ alone) in
    let made : AllRest cells.steps (mutators_of cells) (second ∷ first ∷ []) = record {
      works = let P = Works cells.steps (mutators_of cells) in each-append P (second ∷ []) (first ∷ []) (each-one P second c.requires.second.0) (each-one P first c.requires.first.0);
      rest = each-append Rests (second ∷ []) (first ∷ []) (each-one Rests second c.requires.second.1) (each-one Rests first c.requires.first.1);
    } in
    subst (λ x. AllRest x.steps (mutators_of x) c.push.new.self.items) (sym c.in-Err.ensures.back.0)
    (subst (λ (l : List Pass). AllRest cells.steps (mutators_of cells) l) (sym all) made)
