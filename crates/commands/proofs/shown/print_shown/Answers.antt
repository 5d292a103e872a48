use Rattle.std.proofs.Common.{◌<◌, length, rules, arith}
use Rattle.std.proofs.lemmas.Result.{err_from_is_err_and}
use Rattle.comp_trace.specs.declared.steps.shown.Shown.{Shown}
use Rattle.command_io.proofs.Begun.{begun_amid}
use Rattle.command_io.proofs.Lines.{listed-amid}
use Rattle.commands.specs.TraceTasks.{shown_line}
use Rattle.commands.proofs.shown.print_shown.Goals as goal

-- A beginning of the lines was printed.
pub returns-in_err-print_value-clause-begun : goal.returns-in_err-print_value-clause-begun
returns-in_err-print_value-clause-begun g c =
    let p = err_from_is_err_and c.from_residual.result c.from_residual.ensures.1 in
    let k = c.loop-value.value-index in
    let shown = c.args.shown.now in
    let lt : k < length shown = omega arith in
    let none : Shown = record { line = 0; value = 0 } in
    rw p.1 (begun_amid _ _ _ _ _ _ _ (listed-amid shown_line shown k none lt) c.loop-value.invariant.printed (search rules))
