use Rattle.std.proofs.lemmas.Result.{err_from_is_err_and}
use Rattle.comp_dump.proofs.LeftWords.{again_of_all, stops_words_end, words_of_all}
use Rattle.comp_dump.proofs.reading.words.read_words.Goals as goal

pub returns-in_err-expect_end-clause-cause : goal.returns-in_err-expect_end-clause-cause
returns-in_err-expect_end-clause-cause g c =
    let p = err_from_is_err_and c.from_residual-in_err-expect_end.result c.from_residual-in_err-expect_end.ensures.1 in
    rw (p.1, p.2) (stops_words_end c.args.large c.in_ok-file.file _ _ _ c.in_ok-file.ensures.edition c.in_ok-file.ensures.stored c.in_ok-file.ensures.read c.in_err-expect_end.ensures.cause)

pub returns-clause-again : goal.returns-clause-again
returns-clause-again g c =
    again_of_all c.args.large _ _ c.in_ok-file.file c.in_ok-into_dump.field-0 c.in_ok-file.ensures.edition c.in_ok-file.ensures.stored c.in_ok-file.ensures.read c.in_ok-expect_end.ensures.end c.in_ok-into_dump.ensures.dump

pub returns-clause-read : goal.returns-clause-read
returns-clause-read g c =
    words_of_all _ _ c.in_ok-file.file c.in_ok-into_dump.field-0 c.in_ok-file.ensures.stored c.in_ok-file.ensures.read c.in_ok-expect_end.ensures.end c.in_ok-into_dump.ensures.dump
