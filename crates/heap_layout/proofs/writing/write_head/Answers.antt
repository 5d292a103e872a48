use Rattle.std.proofs.lemmas.Result.{err_from_is_err_and}
use Rattle.heap_layout.proofs.Writings.{some_first, some_then, writes_then}
use Rattle.heap_layout.proofs.writing.write_head.Goals as goal

pub returns-in_err-write_part-clause-writes : goal.returns-in_err-write_part-clause-writes
returns-in_err-write_part-clause-writes g c =
    let p = err_from_is_err_and c.from_residual.result c.from_residual.ensures.1 in
    rw p.1 (some_first _ _ _ _ c.in_err-write_part.ensures.writes)

pub returns-in_err-write_version-clause-writes : goal.returns-in_err-write_version-clause-writes
returns-in_err-write_version-clause-writes g c =
    let p = err_from_is_err_and c.from_residual-in_err-write_version.result c.from_residual-in_err-write_version.ensures.1 in
    rw p.1 (some_then _ _ _ _ _ c.in_ok-write_part.ensures.writes (some_first _ _ _ _ c.in_err-write_version.ensures.writes))

pub returns-clause-writes : goal.returns-clause-writes
returns-clause-writes g c =
    writes_then _ _ _ _ _ _ c.in_ok-write_part.ensures.writes (writes_then _ _ _ _ _ _ c.in_ok-write_version.ensures.writes c.write_numbers.ensures.writes)
