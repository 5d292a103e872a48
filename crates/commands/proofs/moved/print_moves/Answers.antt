use Rattle.std.proofs.lemmas.Result.{err_from_is_err_and}
use Rattle.command_io.proofs.Begun.{begun_after, begun_longer}
use Rattle.commands.proofs.moved.print_moves.Goals as goal

-- A beginning of the lines was printed.
pub returns-in_err-print_line-clause-begun : goal.returns-in_err-print_line-clause-begun
returns-in_err-print_line-clause-begun g c =
    let p = err_from_is_err_and c.from_residual.result c.from_residual.ensures.1 in
    rw p.1 (begun_longer _ _ _ _ c.in_err-print_line.ensures.begun)

pub returns-clause-begun : goal.returns-clause-begun
returns-clause-begun g c = begun_after _ _ _ _ _ _ c.in_ok-print_line.ensures.printed c.print_line-2.ensures.begun
