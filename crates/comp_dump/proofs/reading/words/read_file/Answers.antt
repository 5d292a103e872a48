use Rattle.std.proofs.Common.{arith}
use Rattle.std.proofs.lemmas.Result.{err_from_is_err_and}
use Rattle.heap_layout.proofs.Bounds.{roots_most, words_most}
use Rattle.comp_dump.specs.DumpEncoding.{eight_bytes}
use Rattle.comp_dump.specs.DumpReading.{word}
use Rattle.comp_dump.specs.WordsEncoding.{words_magic}
use Rattle.comp_dump.specs.WordsReading.{words_file}
use Rattle.comp_dump.proofs.Readings.{spells_times, stops_first, stops_then}
use Rattle.comp_dump.proofs.Fields.{spells_edition, spells_four, words_spell}
use Rattle.comp_dump.proofs.Pages.{spells_expected}
use Rattle.comp_dump.proofs.LeftWords.{file_read}
use Rattle.comp_dump.proofs.reading.words.read_file.Goals as goal

pub returns-in_err-expect-clause-cause : goal.returns-in_err-expect-clause-cause
unfolding words_file
returns-in_err-expect-clause-cause g c =
    let p = err_from_is_err_and c.from_residual.result c.from_residual.ensures.1 in
    rw (p.1, p.2)
    (stops_first _ _ _ _ c.in_err-expect.ensures.cause)

pub returns-in_err-edition-clause-cause : goal.returns-in_err-edition-clause-cause
unfolding words_file
returns-in_err-edition-clause-cause g c =
    let p = err_from_is_err_and c.from_residual-in_err-edition.result c.from_residual-in_err-edition.ensures.1 in
    rw (p.1, p.2)
    (stops_then _ _ _ _ _ words_magic _ c.in_ok-expect.ensures.read (spells_expected words_magic)
    (stops_first _ _ _ _ c.in_err-edition.ensures.cause))

pub returns-in_err-count-clause-cause : goal.returns-in_err-count-clause-cause
unfolding words_file
returns-in_err-count-clause-cause g c =
    let p = err_from_is_err_and c.from_residual-in_err-count.result c.from_residual-in_err-count.ensures.1 in
    rw (p.1, p.2)
    (stops_then _ _ _ _ _ words_magic _ c.in_ok-expect.ensures.read (spells_expected words_magic)
    (stops_then _ _ _ _ _ c.in_ok-edition.edition _ c.in_ok-edition.ensures.read (spells_edition c.args.large _ c.in_ok-edition.ensures.edition)
    (stops_first _ _ _ _ c.in_err-count.ensures.cause)))

pub returns-in_err-of_roots-clause-cause : goal.returns-in_err-of_roots-clause-cause
unfolding words_file
returns-in_err-of_roots-clause-cause g c =
    let p = err_from_is_err_and c.from_residual-in_err-of_roots.result c.from_residual-in_err-of_roots.ensures.1 in
    rw (p.1, p.2)
    (stops_then _ _ _ _ _ words_magic _ c.in_ok-expect.ensures.read (spells_expected words_magic)
    (stops_then _ _ _ _ _ c.in_ok-edition.edition _ c.in_ok-edition.ensures.read (spells_edition c.args.large _ c.in_ok-edition.ensures.edition)
    (stops_then _ _ _ _ _ c.in_ok-count.count _ c.in_ok-count.ensures.read (spells_four _ _ _ (omega (arith, c.in_ok-count.ensures.within.1, words_most c.in_ok-edition.edition)) (omega arith) c.in_ok-count.ensures.within.1)
    (stops_first _ _ _ _ c.in_err-of_roots.ensures.cause))))

pub returns-in_err-roots-clause-cause : goal.returns-in_err-roots-clause-cause
unfolding words_file
returns-in_err-roots-clause-cause g c =
    let p = err_from_is_err_and c.from_residual-in_err-roots.result c.from_residual-in_err-roots.ensures.1 in
    rw (p.1, p.2)
    (stops_then _ _ _ _ _ words_magic _ c.in_ok-expect.ensures.read (spells_expected words_magic)
    (stops_then _ _ _ _ _ c.in_ok-edition.edition _ c.in_ok-edition.ensures.read (spells_edition c.args.large _ c.in_ok-edition.ensures.edition)
    (stops_then _ _ _ _ _ c.in_ok-count.count _ c.in_ok-count.ensures.read (spells_four _ _ _ (omega (arith, c.in_ok-count.ensures.within.1, words_most c.in_ok-edition.edition)) (omega arith) c.in_ok-count.ensures.within.1)
    (stops_then _ _ _ _ _ c.in_ok-of_roots.of_roots _ c.in_ok-of_roots.ensures.read (spells_four _ _ _ (omega (arith, c.in_ok-of_roots.ensures.within.1, roots_most c.in_ok-edition.edition)) (omega arith) c.in_ok-of_roots.ensures.within.1)
    (stops_first _ _ _ _ c.in_err-roots.ensures.cause)))))

pub returns-in_err-words-clause-cause : goal.returns-in_err-words-clause-cause
unfolding words_file
returns-in_err-words-clause-cause g c =
    let p = err_from_is_err_and c.from_residual-in_err-words.result c.from_residual-in_err-words.ensures.1 in
    rw (p.1, p.2)
    (stops_then _ _ _ _ _ words_magic _ c.in_ok-expect.ensures.read (spells_expected words_magic)
    (stops_then _ _ _ _ _ c.in_ok-edition.edition _ c.in_ok-edition.ensures.read (spells_edition c.args.large _ c.in_ok-edition.ensures.edition)
    (stops_then _ _ _ _ _ c.in_ok-count.count _ c.in_ok-count.ensures.read (spells_four _ _ _ (omega (arith, c.in_ok-count.ensures.within.1, words_most c.in_ok-edition.edition)) (omega arith) c.in_ok-count.ensures.within.1)
    (stops_then _ _ _ _ _ c.in_ok-of_roots.of_roots _ c.in_ok-of_roots.ensures.read (spells_four _ _ _ (omega (arith, c.in_ok-of_roots.ensures.within.1, roots_most c.in_ok-edition.edition)) (omega arith) c.in_ok-of_roots.ensures.within.1)
    (stops_then _ _ _ _ _ c.in_ok-roots.roots.items _ c.in_ok-roots.ensures.read (spells_times word eight_bytes _ _ c.in_ok-roots.ensures.long (words_spell _ c.in_ok-roots.ensures.stored))
    (stops_first _ _ _ _ c.in_err-words.ensures.cause))))))

pub returns-clause-read : goal.returns-clause-read
returns-clause-read g c =
    file_read _ _ _ _ _ _ _ (record { edition = c.in_ok-edition.edition; roots = c.in_ok-roots.roots.items; words = c.in_ok-words.words.items }) c.in_ok-count.count c.in_ok-of_roots.of_roots c.in_ok-words.ensures.long c.in_ok-roots.ensures.long c.in_ok-expect.ensures.read c.in_ok-edition.ensures.read
    c.in_ok-count.ensures.read c.in_ok-of_roots.ensures.read c.in_ok-roots.ensures.read c.in_ok-words.ensures.read
