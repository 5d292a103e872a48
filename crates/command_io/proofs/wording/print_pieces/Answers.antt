use Rattle.std.proofs.Common.{◌<◌, length, arith}
use Rattle.std.proofs.lemmas.Result.{err_from_is_err_and}
use Rattle.command_io.proofs.Begun.{begun_amid}
use Rattle.command_io.proofs.Lines.{listed-amid}
use Rattle.command_io.specs.Wording.{piece_text}
use Rattle.command_io.proofs.wording.print_pieces.Goals as goal

-- A beginning of the pieces was printed.
pub returns-in_err-print_piece-clause-begun : goal.returns-in_err-print_piece-clause-begun
returns-in_err-print_piece-clause-begun g c =
    let p = err_from_is_err_and c.from_residual.result c.from_residual.ensures.1 in
    let k = c.loop-piece.piece-index in
    let pieces = c.args.pieces.now in
    let lt : k < length pieces = omega arith in
    rw p.1 (begun_amid _ _ _ _ _ _ _ (listed-amid piece_text pieces k _ lt) c.loop-piece.invariant.printed c.in_err-print_piece.ensures.begun)
