use Rattle.std.proofs.Common.{◌≡◌, List, map, drop, length, ap, sym, ◌∙◌, subst, arith}
use Rattle.std.proofs.lemmas.List.{length-map}
use Rattle.cell_steps.specs.Passes.{known_of, builds_of, AreAll}
use Rattle.cell_steps.specs.Passes as steps
use Rattle.cell_steps.specs.Closing.{Gathered}
use Rattle.cell_steps.specs.declared.pass.Pass.{Pass}
use Rattle.page_cells.proofs.Ending.{all_of, end_of, same_row_builds, take_front}
use Rattle.page_cells.proofs.cells.Cells.close_row.Goals as goal

pub close-pages-requires : goal.close-pages-requires
close-pages-requires g c =
    let self = c.args.self in
    let row = c.args.row.items in
    let all = all_of self.steps _ row row (omega (arith, self.some, self.passes)) c.requires.of c.requires.ordered in
    subst (AreAll self.steps) (sym c.deref_mut.ensures.value) all

pub returns-clause-end : goal.returns-clause-end
returns-clause-end g c =
    let row = c.args.row.items in
    let gathered = subst (λ (l : List Pass). Gathered (steps.about c.args.self.steps) c.close-pages.result (map known_of l)) c.deref_mut.ensures.value c.close-pages.ensures.pages in
    end_of (steps.about c.args.self.steps) c.close-pages.result row c.requires.ordered.numbers gathered

pub returns-clause-builds : goal.returns-clause-builds
returns-clause-builds g c =
    let row = c.args.row.items in
    let after = c.close-pages.new.passes in
    let known : map known_of after ≡ map known_of row = c.close-pages.ensures.known ∙ ap (λ (l : List Pass). map known_of l) c.deref_mut.ensures.value in
    let long : c.args.row.len ≡ length after = omega (arith, ap length known, length-map after known_of, length-map row known_of, c.args.row.ok.0) in
    c.builds_of_all.ensures ∙ ap (λ (l : List Pass). map builds_of l) (take_front after _ c.args.row.len long) ∙ same_row_builds row after known

pub builds_of_all-requires : goal.builds_of_all-requires
builds_of_all-requires g c =
    let row = c.args.row.items in
    let after = c.close-pages.new.passes in
    let known : map known_of after ≡ map known_of row = c.close-pages.ensures.known ∙ ap (λ (l : List Pass). map known_of l) c.deref_mut.ensures.value in
    let same : length after ≡ length row = omega (arith, ap length known, length-map after known_of, length-map row known_of) in
    let long : c.args.row.len ≡ length after = omega (arith, same, c.args.row.ok.0) in
    let taken = ap (λ (l : List Pass). length l) (take_front after (drop (length after) row) c.args.row.len long) in
    (c.requires.room.0, omega (arith, taken, same, c.requires.ordered.count, c.requires.room.1))
