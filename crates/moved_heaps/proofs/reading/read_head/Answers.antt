use Rattle.std.proofs.Common.{arith}
use Rattle.std.proofs.lemmas.Result.{err_from_is_err_and}
use Rattle.std.proofs.KnownBytes.{Consumes-trans}
use Rattle.heap_layout.specs.Versions.{version_of}
use Rattle.heap_layout.proofs.Bounds.{roots_most, words_most}
use Rattle.comp_dump.specs.DumpEncoding.{four_bytes}
use Rattle.comp_dump.proofs.Readings.{stops_first, stops_then}
use Rattle.comp_dump.proofs.Fields.{spells_edition, spells_four}
use Rattle.comp_dump.proofs.Pages.{spells_expected}
use Rattle.moved_heaps.specs.MovedFiles as files
use Rattle.moved_heaps.specs.MovedFiles.{magic}
use Rattle.moved_heaps.specs.MovedReading.{head}
use Rattle.moved_heaps.proofs.reading.read_head.Goals as goal

pub returns-in_err-expect-clause-cause : goal.returns-in_err-expect-clause-cause
unfolding head
returns-in_err-expect-clause-cause g c =
    let p = err_from_is_err_and c.from_residual.result c.from_residual.ensures.1 in
    rw (p.1, p.2)
    (stops_first _ _ _ _ c.in_err-expect.ensures.cause)

pub returns-in_err-edition-clause-cause : goal.returns-in_err-edition-clause-cause
unfolding head
returns-in_err-edition-clause-cause g c =
    let p = err_from_is_err_and c.from_residual-in_err-edition.result c.from_residual-in_err-edition.ensures.1 in
    rw (p.1, p.2)
    (stops_then _ _ _ _ _ magic _ c.in_ok-expect.ensures.read (spells_expected magic)
    (stops_first _ _ _ _ c.in_err-edition.ensures.cause))

pub returns-in_err-places-clause-cause : goal.returns-in_err-places-clause-cause
unfolding head
returns-in_err-places-clause-cause g c =
    let p = err_from_is_err_and c.from_residual-in_err-places.result c.from_residual-in_err-places.ensures.1 in
    rw (p.1, p.2)
    (stops_then _ _ _ _ _ magic _ c.in_ok-expect.ensures.read (spells_expected magic)
    (stops_then _ _ _ _ _ c.in_ok-edition.edition _ c.in_ok-edition.ensures.read (spells_edition c.args.large _ c.in_ok-edition.ensures.edition)
    (stops_first _ _ _ _ c.in_err-places.ensures.cause)))

pub returns-in_err-roots-clause-cause : goal.returns-in_err-roots-clause-cause
unfolding head
returns-in_err-roots-clause-cause g c =
    let p = err_from_is_err_and c.from_residual-in_err-roots.result c.from_residual-in_err-roots.ensures.1 in
    rw (p.1, p.2)
    (stops_then _ _ _ _ _ magic _ c.in_ok-expect.ensures.read (spells_expected magic)
    (stops_then _ _ _ _ _ c.in_ok-edition.edition _ c.in_ok-edition.ensures.read (spells_edition c.args.large _ c.in_ok-edition.ensures.edition)
    (stops_then _ _ _ _ _ c.in_ok-places.places _ c.in_ok-places.ensures.read (spells_four _ _ _ (omega (arith, words_most c.in_ok-edition.edition, c.in_ok-places.ensures.within)) c.in_ok-places.ensures.within.0 c.in_ok-places.ensures.within.1)
    (stops_first _ _ _ _ c.in_err-roots.ensures.cause))))

pub returns-in_err-words-clause-cause : goal.returns-in_err-words-clause-cause
unfolding head
returns-in_err-words-clause-cause g c =
    let p = err_from_is_err_and c.from_residual-in_err-words.result c.from_residual-in_err-words.ensures.1 in
    rw (p.1, p.2)
    (stops_then _ _ _ _ _ magic _ c.in_ok-expect.ensures.read (spells_expected magic)
    (stops_then _ _ _ _ _ c.in_ok-edition.edition _ c.in_ok-edition.ensures.read (spells_edition c.args.large _ c.in_ok-edition.ensures.edition)
    (stops_then _ _ _ _ _ c.in_ok-places.places _ c.in_ok-places.ensures.read (spells_four _ _ _ (omega (arith, words_most c.in_ok-edition.edition, c.in_ok-places.ensures.within)) c.in_ok-places.ensures.within.0 c.in_ok-places.ensures.within.1)
    (stops_then _ _ _ _ _ c.in_ok-roots.roots _ c.in_ok-roots.ensures.read (spells_four _ _ _ (omega (arith, roots_most c.in_ok-edition.edition, c.in_ok-roots.ensures.within)) c.in_ok-roots.ensures.within.0 c.in_ok-roots.ensures.within.1)
    (stops_first _ _ _ _ c.in_err-words.ensures.cause)))))

pub returns-clause-read : goal.returns-clause-read
unfolding files.head
returns-clause-read g c =
    Consumes-trans _ _ _ magic _ c.in_ok-expect.ensures.read
    (Consumes-trans _ _ _ (four_bytes (version_of c.in_ok-edition.edition)) _ c.in_ok-edition.ensures.read
    (Consumes-trans _ _ _ (four_bytes c.in_ok-places.places) _ c.in_ok-places.ensures.read
    (Consumes-trans _ _ _ (four_bytes c.in_ok-roots.roots) (four_bytes c.in_ok-words.words) c.in_ok-roots.ensures.read c.in_ok-words.ensures.read)))
