use Rattle.std.proofs.lemmas.Result.{err_from_is_err_and}
use Rattle.command_io.proofs.Begun.{begun_after, begun_longer}
use Rattle.command_io.proofs.Printings.{counted_then, printed_then}
use Rattle.commands.proofs.shown.print_run.Goals as goal

pub returns-clause-printed : goal.returns-clause-printed
returns-clause-printed g c = printed_then _ _ _ _ _ _ c.in_ok-print_shown.ensures.printed c.print_line.ensures.printed

pub returns-clause-counts : goal.returns-clause-counts
returns-clause-counts g c = counted_then _ _ _ _ c.in_ok-print_shown.ensures.counts c.print_line.ensures.counts

-- A beginning of it was printed.
pub returns-in_err-print_shown-clause-begun : goal.returns-in_err-print_shown-clause-begun
returns-in_err-print_shown-clause-begun g c =
    let p = err_from_is_err_and c.from_residual.result c.from_residual.ensures.1 in
    rw p.1 (begun_longer _ _ _ _ c.in_err-print_shown.ensures.begun)

pub returns-clause-begun : goal.returns-clause-begun
returns-clause-begun g c = begun_after _ _ _ _ _ _ c.in_ok-print_shown.ensures.printed c.print_line.ensures.begun
