use Rattle.heap_map.proofs.Spaces.{dump_by_pages, dump_by_words}
use Rattle.heap_map.proofs.Standing.{on_ok}
use Rattle.heap_map.proofs.drawing.draw_fresh.Goals as goal

pub returns-in-Words : goal.returns-in-Words
returns-in-Words c = on_ok _ _ _ (λ drawn. dump_by_words c.args.grid.now.scale c.args.grid.now.top c.args.dump.now c.args.first c.args.grid.now.pages _ _ c.in-Words.is drawn) c.draw_fresh_rows.ensures

pub returns-in-Pages : goal.returns-in-Pages
returns-in-Pages c =
    on_ok _ _ _ (λ drawn. dump_by_pages c.args.grid.now.scale c.in-Pages.k c.args.grid.now.top c.args.dump.now c.args.first c.args.grid.now.pages _ _ c.in-Pages.is drawn) c.draw_fresh_cells.ensures
