use Rattle.heap_map.proofs.Spaces.{from_by_pages, from_by_words}
use Rattle.heap_map.proofs.Standing.{on_ok}
use Rattle.heap_map.proofs.drawing.draw_from.Goals as goal

pub returns-in-Words : goal.returns-in-Words
returns-in-Words c = on_ok _ _ _ (λ drawn. from_by_words c.args.grid.now.scale c.args.grid.now.top c.heap.result.now c.args.plan.now _ _ c.in-Words.is c.heap.ensures drawn) c.draw_from_words.ensures

pub returns-in-Pages : goal.returns-in-Pages
returns-in-Pages c =
    on_ok _ _ _ (λ drawn. from_by_pages c.args.grid.now.scale c.in-Pages.field-0 c.args.grid.now.top c.args.grid.now.pages c.args.plan.now _ _ c.in-Pages.is c.requires.pages drawn) c.draw_from_pages.ensures
