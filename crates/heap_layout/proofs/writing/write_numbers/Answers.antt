use Rattle.std.proofs.Common.{refl}
use Rattle.std.proofs.lemmas.Result.{err_from_is_err_and}
use Rattle.heap_layout.specs.Encoding.{four_bytes}
use Rattle.heap_layout.proofs.Writings.{some_in}
use Rattle.heap_layout.proofs.writing.write_numbers.Goals as goal

pub returns-in_err-write_four-clause-writes : goal.returns-in_err-write_four-clause-writes
returns-in_err-write_four-clause-writes g c =
    let p = err_from_is_err_and c.from_residual.result c.from_residual.ensures.1 in
    rw p.1 (some_in four_bytes _ _ _ c.loop-number.number-index _ _ c.args.numbers.now c.loop-number-test.true refl c.loop-number.invariant.written c.in_err-write_four.ensures.writes)
