use Rattle.std.proofs.Common.{List, refl, ap, ◌∙◌, subst, sym, arith, ◌+◌}
use Rattle.heap_layout.specs.Heap.{Heap, live}
use Rattle.page_plan.specs.Sliding.{live_words}
use Rattle.cell_steps.specs.declared.pass.Pass.{Pass}
use Rattle.page_cells.specs.CellEnds as ends
use Rattle.comp_cycles.specs.Finishes.{allocated_by, IsFinished}
use Rattle.comp_cycles.specs.declared.finished.Finished.{Finished}
use Rattle.comp_access.specs.Endings.{IsLeft}
use Rattle.comp_access.specs.Hands.{IsHandOf}
use Rattle.comp_access.specs.declared.hand.Hand.{Hand}
use Rattle.comp_access.proofs.HandRows.{all_at, passes_in_order, rest_all}
use Rattle.comp_crew.specs.Members.{setup_in, steps_of}
use Rattle.comp_crew.specs.HandOrders.{IsInOrder}
use Rattle.comp_crew.proofs.EndCounts.{end_moved, lists_shown}
use Rattle.comp_crew.proofs.finishing.calls.close_all.Goals as goal

pub close_row-closed-requires-clause-of : goal.close_row-closed-requires-clause-of
close_row-closed-requires-clause-of c κs =
    let crew = c.args.crew in
    let given = c.args.hands.items in
    subst (λ (l : List Pass). ends.AllRest (steps_of crew) (setup_in crew).mutators l) (sym c.parted-passes.ensures.passes)
    (rest_all (λ (hand : Hand). hand) given c.in_order-row.result.items _ c.in_order-row.ensures (steps_of crew) (setup_in crew).mutators
    (all_at (λ (hand : Hand). IsHandOf crew.cells hand) given c.requires.each))

pub close_row-closed-requires-clause-ordered : goal.close_row-closed-requires-clause-ordered
close_row-closed-requires-clause-ordered c κs =
    let given = c.args.hands.items in
    let row = c.in_order-row.result.items in
    let is_row = subst (λ n. IsInOrder n given row) c.args.crew.all c.in_order-row.ensures in
    subst (λ (l : List Pass). ends.IsInOrder (setup_in c.args.crew).mutators l l) (sym c.parted-passes.ensures.passes) (passes_in_order (λ (hand : Hand). hand) given row _ is_row)

pub returns-clause-finished : goal.returns-clause-finished
returns-clause-finished c =
    let own = c.args.crew in
    let parts = c.parted-passes.ensures in
    let passes = c.parted-passes.result.0.items in
    let closed = c.close_row-closed.result in
    let live_is = c.live_words.ensures.words ∙ ap (λ (h : Heap). live_words (live h)) c.plan.ensures.heap in
    let words = parts.words in
    let made = ap allocated_by parts.passes in
    let f : Finished = record { edition = c.edition-edition.result; pages = closed.pages; roots = own.roots; live = c.live_words.result + c.parted-passes.result.1; builds = closed.builds } in
    let left : IsLeft (setup_in own) passes closed f = record { edition = c.edition-edition.ensures; pages = refl; builds = refl; roots = own.forwarded; live = omega (arith, live_is, words, made) } in (
      c.in_order-row.result.items,
      subst (λ n. IsInOrder n c.args.hands.items c.in_order-row.result.items) own.all c.in_order-row.ensures,
      subst (λ (l : List Pass). IsFinished (setup_in own) l f) parts.passes (c.close_row-closed.ensures.finished f left),
    )

pub returns-clause-end : goal.returns-clause-end
returns-clause-end c =
    let own = c.args.crew in
    let parts = c.parted-passes.ensures in
    let passes = c.parted-passes.result.0.items in
    let closed = c.close_row-closed.result in
    let live_is = c.live_words.ensures.words ∙ ap (λ (h : Heap). live_words (live h)) c.plan.ensures.heap in
    let words = parts.words in
    let made = ap allocated_by parts.passes in
    let f : Finished = record { edition = c.edition-edition.result; pages = closed.pages; roots = own.roots; live = c.live_words.result + c.parted-passes.result.1; builds = closed.builds } in
    let left : IsLeft (setup_in own) passes closed f = record { edition = c.edition-edition.ensures; pages = refl; builds = refl; roots = own.forwarded; live = omega (arith, live_is, words, made) } in
    let h = c.close_row-closed.ensures in
    let flip = h.flipped f left in
    let shown = lists_shown (setup_in own).mutators (setup_in own).fresh f flip in
    let some = flip.some_mutators in
    let few = flip.few_mutators in
    record { end = end_moved _ _ _ own.planned (h.end f left); some_mutators = omega (arith, shown, some); few_mutators = omega (arith, shown, few) }
