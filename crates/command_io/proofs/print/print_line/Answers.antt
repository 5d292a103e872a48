use Rattle.std.proofs.Common.{◌∙◌}
use Rattle.std.proofs.lemmas.Result.{err_from_is_err_and}
use Rattle.command_io.proofs.Begun.{begun_after, begun_longer, begun_then}
use Rattle.command_io.proofs.Printings.{counted_then, printed_then}
use Rattle.command_io.proofs.print.print_line.Goals as goal

pub returns-in_err-print_text-clause-counts : goal.returns-in_err-print_text-clause-counts
returns-in_err-print_text-clause-counts g c =
    let p = err_from_is_err_and c.from_residual.result c.from_residual.ensures.1 in
    rw (p.1, p.2) c.in_err-print_text.ensures.counts

pub returns-clause-printed : goal.returns-clause-printed
returns-clause-printed g c = printed_then _ _ _ _ _ _ c.in_ok-print_text.ensures.printed (printed_then _ _ _ _ _ _ c.in_ok-print_digits.ensures.printed c.print_text-2.ensures.printed)

pub returns-clause-counts : goal.returns-clause-counts
returns-clause-counts g c = counted_then _ _ _ _ (c.in_ok-print_digits.ensures.counts ∙ c.in_ok-print_text.ensures.counts) c.print_text-2.ensures.counts

-- A beginning of the line was printed.
pub returns-in_err-print_text-clause-begun : goal.returns-in_err-print_text-clause-begun
returns-in_err-print_text-clause-begun g c =
    let p = err_from_is_err_and c.from_residual.result c.from_residual.ensures.1 in
    rw p.1 (begun_longer _ _ _ _ c.in_err-print_text.ensures.begun)

pub returns-in_err-print_digits-clause-begun : goal.returns-in_err-print_digits-clause-begun
returns-in_err-print_digits-clause-begun g c =
    let p = err_from_is_err_and c.from_residual-in_err-print_digits.result c.from_residual-in_err-print_digits.ensures.1 in
    rw p.1 (begun_then _ _ _ _ _ c.in_ok-print_text.ensures.printed (begun_longer _ _ _ _ c.in_err-print_digits.ensures.begun))

pub returns-clause-begun : goal.returns-clause-begun
returns-clause-begun g c =
    begun_after _ _ _ _ _ _ c.in_ok-print_text.ensures.printed (begun_after _ _ _ _ _ _ c.in_ok-print_digits.ensures.printed c.print_text-2.ensures.begun)
