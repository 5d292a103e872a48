use Rattle.std.proofs.Common.{◌≡◌, ℕ, ◌≤◌, [], List, refl, sym, ap, ◌∙◌, subst, arith}
use mathlib.Core.Option.{some}
use lib.ListN.{get_elem?}
use Rattle.heap_layout.specs.Heap.{Heap, IsClosed}
use Rattle.cell_steps.specs.Entry.{Entry}
use Rattle.cell_steps.specs.Setup.{Setup}
use Rattle.cell_steps.specs.Lists.{by}
use Rattle.cell_steps.specs.View.{Slot}
use Rattle.cell_steps.specs.Passes.{seen}
use Rattle.cell_steps.specs.Closing.{journal_at}
use Rattle.cell_steps.specs.declared.pass.Pass.{Pass}
use Rattle.page_cells.specs.CellEnds.{IsEnd}
use Rattle.page_cells.specs.CellViews.{setup_of}
use Rattle.comp_history.specs.Builds.{named}
use Rattle.comp_history.specs.Merged.{AreOwn}
use Rattle.comp_cycles.specs.Finishes.{pages_of}
use Rattle.comp_access.proofs.FinishedHeaps.{built_once, can, did_law, none_law, shares_law}
use Rattle.comp_access.proofs.closing.close_row.Goals as goal

pub returns-clause-fits : goal.returns-clause-fits
returns-clause-fits g c =
    let cells = c.args.cells in
    let u = setup_of cells in
    let row = c.args.passes.items in
    let slots = c.close_row.result.pages in
    let end = c.close_row.ensures.end in
    let numbers = c.requires.ordered.numbers in
    let merge = can u row slots numbers end cells.slid in
    let js = λ (p : ℕ). journal_at slots p in
    let own = λ (k : ℕ) (mine : List (ℕ × Entry)) (are : AreOwn js k mine). c.own_entries.ensures u js merge k mine are in
    let sums = λ (n : ℕ) (none : (k p : ℕ) → n ≤ k → by k (js p) ≡ []) (weight : ℕ × Entry → ℕ). c.writers_add_up.ensures u js merge n none weight in
    let about = λ (k : ℕ) (pass : Pass) (e : get_elem? row k ≡ some pass). ap (λ (w : Setup). w.heap.edition) (c.requires.of.works k pass e).of.about in
    let shares = shares_law u row slots numbers end cells.slid own sums about in
    let fits = c.objects_fit.ensures u js merge in
    omega (arith, shares, fits, cells.slid)

pub returns-clause-finished : goal.returns-clause-finished
returns-clause-finished g c = λ f is.
    let cells = c.args.cells in
    let u = setup_of cells in
    let row = c.args.passes.items in
    let slots = pages_of f in
    let end = subst (λ (l : List Slot). IsEnd u row l) (sym is.pages) c.close_row.ensures.end in
    let builds = is.builds ∙ c.close_row.ensures.builds in
    let numbers = c.requires.ordered.numbers in
    let merge = can u row slots numbers end cells.slid in
    let js = λ (p : ℕ). journal_at slots p in
    let own = λ (k : ℕ) (mine : List (ℕ × Entry)) (are : AreOwn js k mine). c.own_entries.ensures u js merge k mine are in
    let sums = λ (n : ℕ) (none : (k p : ℕ) → n ≤ k → by k (js p) ≡ []) (weight : ℕ × Entry → ℕ). c.writers_add_up.ensures u js merge n none weight in
    let about = λ (k : ℕ) (pass : Pass) (e : get_elem? row k ≡ some pass). ap (λ (w : Setup). w.heap.edition) (c.requires.of.works k pass e).of.about in
    let shares = shares_law u row slots numbers end cells.slid own sums about in
    let closed = subst (λ (heap : Heap). IsClosed heap) c.plan.ensures.heap c.heap_is_closed.ensures in
    record {
      edition = is.edition;
      pages = record {
        count = end.count;
        builds = builds;
        once = λ p. ap (λ (b : List (List ℕ)). named p b) builds ∙ built_once u row slots numbers end cells.slid p;
        known = λ k pass e. (end.passes k pass e).seen_built;
        bases = end.bases;
        lawful = end.lawful;
        closed = c.merged_references_are_starts.ensures u js merge;
      };
      roots = is.roots;
      balances = record {
        shares = is.live;
        made = omega (arith, is.live, shares);
      };
      history = record {
        merges = merge;
        one = c.one_history.ensures u js closed merge;
        own = did_law u row slots numbers end cells.slid own sums;
        no_others = none_law u row slots numbers end cells.slid own sums;
        begins = λ k pass e. (end.passes k pass e).begins;
        points = λ k pass e p lt. c.beginnings_are_points.ensures u js closed merge p (seen pass p) lt ((end.passes k pass e).begins p);
      };
    }

pub returns-clause-flipped : goal.returns-clause-flipped
returns-clause-flipped g c = λ f is.
    let cells = c.args.cells in
    record {
      setup = setup_of cells;
      row = c.args.passes.items;
      finished = returns-clause-finished g c f is;
      heap = subst (λ (heap : Heap). IsClosed heap) c.plan.ensures.heap c.heap_is_closed.ensures;
      crew = c.requires.ordered.count;
      mutators_are = refl;
      some_mutators = omega (arith, cells.some, cells.passes);
      few_mutators = omega (arith, cells.few, cells.passes);
      fresh_are = refl;
      few_fresh = omega (arith, cells.few_fresh, cells.fresh_pages);
    }

pub returns-clause-end : goal.returns-clause-end
returns-clause-end g c = λ f is.
    let cells = c.args.cells in
    c.finished_is_end.ensures.end (setup_of cells) c.args.passes.items f (returns-clause-finished g c f is) c.requires.ordered.count cells.slid (omega (arith, cells.few_fresh, cells.fresh_pages))
    (subst (λ (heap : Heap). IsClosed heap) c.plan.ensures.heap c.heap_is_closed.ensures)
