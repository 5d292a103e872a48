use Rattle.std.proofs.lemmas.Result.{err_from_is_err_and}
use Rattle.comp_dump.proofs.Pages.{stops_end}
use Rattle.comp_dump.proofs.reading.read_dump_by.Goals as goal

pub returns-in_err-expect_end-clause-cause : goal.returns-in_err-expect_end-clause-cause
returns-in_err-expect_end-clause-cause g c =
    let p = err_from_is_err_and c.from_residual-in_err-expect_end.result c.from_residual-in_err-expect_end.ensures.1 in
    rw (p.1, p.2) (stops_end c.args.large c.in_ok-dump.dump _ _ _ c.in_ok-dump.ensures.edition c.in_ok-dump.ensures.stored c.in_ok-dump.ensures.read c.in_err-expect_end.ensures.cause)
