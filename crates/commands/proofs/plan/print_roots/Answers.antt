use Rattle.std.proofs.Common.{◌<◌, length, rules, arith, ◌∙◌}
use Rattle.std.proofs.KnownBytes.{Appends-trans}
use Rattle.commands.specs.HeapTasks.{root_line}
use Rattle.std.proofs.lemmas.Result.{err_from_is_err_and}
use Rattle.command_io.proofs.Begun.{begun_amid}
use Rattle.command_io.proofs.Lines.{enumerated-amid, enumerated-next}
use Rattle.commands.proofs.plan.print_roots.Goals as goal

pub loop-number-preserved : goal.loop-number-preserved
loop-number-preserved g c =
    let k = c.loop-number.number in
    let roots = c.args.roots.now in
    let lt : k < length roots = omega arith in
    record {
      printed = rw (enumerated-next root_line roots k lt) (Appends-trans _ _ _ _ _ c.loop-number.invariant.printed (search rules));
      none_failed = c.in_ok-print_numbered.ensures.counts ∙ c.loop-number.invariant.none_failed;
      same_writer = c.in_ok-print_numbered.ensures.same_writer ∙ c.loop-number.invariant.same_writer;
    }

-- A beginning of the lines was printed.
pub returns-in_err-print_numbered-clause-begun : goal.returns-in_err-print_numbered-clause-begun
returns-in_err-print_numbered-clause-begun g c =
    let p = err_from_is_err_and c.from_residual.result c.from_residual.ensures.1 in
    let k = c.loop-number.number in
    let roots = c.args.roots.now in
    let lt : k < length roots = omega arith in
    rw p.1 (begun_amid _ _ _ _ _ _ _ (enumerated-amid root_line roots k lt) c.loop-number.invariant.printed (search rules))
