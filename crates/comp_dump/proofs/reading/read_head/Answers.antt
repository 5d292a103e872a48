use Rattle.std.proofs.Common.{arith}
use Rattle.std.proofs.lemmas.Result.{err_from_is_err_and}
use Rattle.comp_dump.proofs.Readings.{stops_first, stops_then}
use Rattle.std.proofs.KnownBytes.{Consumes-trans}
use Rattle.comp_dump.specs.DumpEncoding as encoding
use Rattle.heap_layout.specs.Versions.{version_of}
use Rattle.comp_dump.specs.DumpEncoding.{magic, four_bytes}
use Rattle.comp_dump.specs.DumpReading.{head}
use Rattle.comp_dump.proofs.Fields.{spells_edition, spells_four}
use Rattle.comp_dump.proofs.Pages.{spells_expected}
use Rattle.heap_layout.proofs.Bounds.{pages_most, fresh_pages_most}
use Rattle.comp_dump.proofs.reading.read_head.Goals as goal

pub returns-in_err-expect-clause-cause : goal.returns-in_err-expect-clause-cause
unfolding head
returns-in_err-expect-clause-cause g c =
    let p = err_from_is_err_and c.from_residual.result c.from_residual.ensures.1 in
    rw (p.1, p.2)
    (stops_first _ _ _ _ c.in_err-expect.ensures.cause)

pub returns-in_err-edition-clause-cause : goal.returns-in_err-edition-clause-cause
unfolding head
returns-in_err-edition-clause-cause g c =
    let p = err_from_is_err_and c.from_residual-in_err-edition.result c.from_residual-in_err-edition.ensures.1 in
    rw (p.1, p.2)
    (stops_then _ _ _ _ _ magic _ c.in_ok-expect.ensures.read (spells_expected magic)
    (stops_first _ _ _ _ c.in_err-edition.ensures.cause))

pub returns-in_err-mutators-clause-cause : goal.returns-in_err-mutators-clause-cause
unfolding head
returns-in_err-mutators-clause-cause g c =
    let p = err_from_is_err_and c.from_residual-in_err-mutators.result c.from_residual-in_err-mutators.ensures.1 in
    rw (p.1, p.2)
    (stops_then _ _ _ _ _ magic _ c.in_ok-expect.ensures.read (spells_expected magic)
    (stops_then _ _ _ _ _ c.in_ok-edition.edition _ c.in_ok-edition.ensures.read (spells_edition c.args.large _ c.in_ok-edition.ensures.edition)
    (stops_first _ _ _ _ c.in_err-mutators.ensures.cause)))

pub returns-in_err-fresh-clause-cause : goal.returns-in_err-fresh-clause-cause
unfolding head
returns-in_err-fresh-clause-cause g c =
    let p = err_from_is_err_and c.from_residual-in_err-fresh.result c.from_residual-in_err-fresh.ensures.1 in
    rw (p.1, p.2)
    (stops_then _ _ _ _ _ magic _ c.in_ok-expect.ensures.read (spells_expected magic)
    (stops_then _ _ _ _ _ c.in_ok-edition.edition _ c.in_ok-edition.ensures.read (spells_edition c.args.large _ c.in_ok-edition.ensures.edition)
    (stops_then _ _ _ _ _ c.in_ok-mutators.mutators _ c.in_ok-mutators.ensures.read (spells_four _ _ _ (omega arith) c.in_ok-mutators.ensures.within.0 c.in_ok-mutators.ensures.within.1)
    (stops_first _ _ _ _ c.in_err-fresh.ensures.cause))))

pub returns-in_err-pages-clause-cause : goal.returns-in_err-pages-clause-cause
unfolding head
returns-in_err-pages-clause-cause g c =
    let p = err_from_is_err_and c.from_residual-in_err-pages.result c.from_residual-in_err-pages.ensures.1 in
    rw (p.1, p.2)
    (stops_then _ _ _ _ _ magic _ c.in_ok-expect.ensures.read (spells_expected magic)
    (stops_then _ _ _ _ _ c.in_ok-edition.edition _ c.in_ok-edition.ensures.read (spells_edition c.args.large _ c.in_ok-edition.ensures.edition)
    (stops_then _ _ _ _ _ c.in_ok-mutators.mutators _ c.in_ok-mutators.ensures.read (spells_four _ _ _ (omega arith) c.in_ok-mutators.ensures.within.0 c.in_ok-mutators.ensures.within.1)
    (stops_then _ _ _ _ _ c.in_ok-fresh.fresh _ c.in_ok-fresh.ensures.read (spells_four _ _ _ (omega (arith, fresh_pages_most c.in_ok-edition.edition)) c.in_ok-fresh.ensures.within.0 c.in_ok-fresh.ensures.within.1)
    (stops_first _ _ _ _ c.in_err-pages.ensures.cause)))))

pub returns-in_err-roots-clause-cause : goal.returns-in_err-roots-clause-cause
unfolding head
returns-in_err-roots-clause-cause g c =
    let p = err_from_is_err_and c.from_residual-in_err-roots.result c.from_residual-in_err-roots.ensures.1 in
    rw (p.1, p.2)
    (stops_then _ _ _ _ _ magic _ c.in_ok-expect.ensures.read (spells_expected magic)
    (stops_then _ _ _ _ _ c.in_ok-edition.edition _ c.in_ok-edition.ensures.read (spells_edition c.args.large _ c.in_ok-edition.ensures.edition)
    (stops_then _ _ _ _ _ c.in_ok-mutators.mutators _ c.in_ok-mutators.ensures.read (spells_four _ _ _ (omega arith) c.in_ok-mutators.ensures.within.0 c.in_ok-mutators.ensures.within.1)
    (stops_then _ _ _ _ _ c.in_ok-fresh.fresh _ c.in_ok-fresh.ensures.read (spells_four _ _ _ (omega (arith, fresh_pages_most c.in_ok-edition.edition)) c.in_ok-fresh.ensures.within.0 c.in_ok-fresh.ensures.within.1)
    (stops_then _ _ _ _ _ c.in_ok-pages.pages _ c.in_ok-pages.ensures.read (spells_four _ _ _ (omega (arith, pages_most c.in_ok-edition.edition, fresh_pages_most c.in_ok-edition.edition)) c.in_ok-pages.ensures.within.0 c.in_ok-pages.ensures.within.1)
    (stops_first _ _ _ _ c.in_err-roots.ensures.cause))))))

pub returns-clause-read : goal.returns-clause-read
unfolding encoding.head
returns-clause-read g c =
    Consumes-trans _ _ _ magic _ c.in_ok-expect.ensures.read
    (Consumes-trans _ _ _ (four_bytes (version_of c.in_ok-edition.edition)) _ c.in_ok-edition.ensures.read
    (Consumes-trans _ _ _ (four_bytes c.in_ok-mutators.mutators) _ c.in_ok-mutators.ensures.read
    (Consumes-trans _ _ _ (four_bytes c.in_ok-fresh.fresh) _ c.in_ok-fresh.ensures.read
    (Consumes-trans _ _ _ (four_bytes c.in_ok-pages.pages) (four_bytes c.in_ok-roots.roots) c.in_ok-pages.ensures.read c.in_ok-roots.ensures.read))))
