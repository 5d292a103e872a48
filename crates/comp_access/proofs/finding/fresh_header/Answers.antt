use Rattle.std.proofs.Common.{◌≡◌, ◌∙◌, sym, ap, subst, arith}
use Rattle.heap_layout.specs.Header.{header_of}
use Rattle.heap_layout.specs.declared.edition.Edition.{Edition}
use Rattle.cell_steps.specs.Setup.{address}
use Rattle.cell_steps.specs.Passes.{seen, KnowsFresh}
use Rattle.page_cells.specs.CellViews.{setup_of}
use Rattle.page_cells.specs.Objects.{page_at, HasShape}
use Rattle.comp_access.proofs.Growing.{fresh_more}
use Rattle.comp_access.proofs.finding.fresh_header.Goals as goal

pub returns-clause-fresh : goal.returns-clause-fresh
returns-clause-fresh g c = fresh_more (setup_of c.args.cells.now) c.args.pass.now c.load.new.pass c.load.ensures.grows.0 c.args.object c.requires.fresh

pub returns-clause-shape : goal.returns-clause-shape
returns-clause-shape g c =
    let u = setup_of c.args.cells.now in
    let journals = seen c.load.new.pass in
    let at_page = subst (λ o. KnowsFresh c.args.pass.now (page_at c.args.object) o) (sym c.offset_at.ensures.offset) c.requires.fresh.known in
    let known = subst (λ p. KnowsFresh c.args.pass.now p c.offset_at.result) (sym c.page_at.ensures) at_page in
    let here : address c.page_at.result c.offset_at.result ≡ c.args.object = omega (arith, c.page_at.ensures, c.offset_at.ensures.offset, c.requires.fresh.begins) in
    let header = c.from_word_of.ensures ∙ ap (λ (e : Edition). header_of e c.in-Ok.word) c.edition.ensures in
    subst (λ x. HasShape u journals x c.from_word_of.result) here (subst (HasShape u journals (address c.page_at.result c.offset_at.result)) (sym header) (c.in-Ok.ensures.header known).0)
