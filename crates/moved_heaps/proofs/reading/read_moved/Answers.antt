use Rattle.std.proofs.lemmas.Result.{err_from_is_err_and}
use Rattle.comp_dump.proofs.Wholes.{consumed_all, stops_before}
use Rattle.moved_heaps.specs.MovedReading as reading
use Rattle.moved_heaps.proofs.FileReading.{stops_end}
use Rattle.moved_heaps.proofs.reading.read_moved.Goals as goal

pub returns-in_err-moved-clause-cause : goal.returns-in_err-moved-clause-cause
returns-in_err-moved-clause-cause g c =
    let p = err_from_is_err_and c.from_residual.result c.from_residual.ensures.1 in
    rw (p.1, p.2) (stops_before (reading.moved c.args.large) _ _ c.in_err-moved.ensures.cause)

pub returns-in_err-expect_end-clause-cause : goal.returns-in_err-expect_end-clause-cause
returns-in_err-expect_end-clause-cause g c =
    let p = err_from_is_err_and c.from_residual-in_err-expect_end.result c.from_residual-in_err-expect_end.ensures.1 in
    rw (p.1, p.2) (stops_end c.args.large c.in_ok-moved.moved _ _ _ c.in_ok-moved.ensures.edition c.in_ok-moved.ensures.stored c.in_ok-moved.ensures.read c.in_err-expect_end.ensures.cause)

pub returns-clause-read : goal.returns-clause-read
returns-clause-read g c = consumed_all _ _ _ c.in_ok-moved.ensures.read c.in_ok-expect_end.ensures.end
