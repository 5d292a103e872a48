use Rattle.std.proofs.Common.{◌≡◌}
use Rattle.std.proofs.lemmas.Result.{err_from_is_err_and}
use Rattle.heap_layout.specs.Counted.{inner_of, failures_of}
use Rattle.command_io.specs.declared.refusal.CommandRefusal.TheVariants.{CannotPrint}
use Rattle.commands.specs.TaskAnswers.{outcome_of}
use Rattle.commands.proofs.Answered.{unflushed_outcome}
use Rattle.commands.proofs.delivering.deliver.Goals as goal

pub returns-in_err-flush-clause-cause : goal.returns-in_err-flush-clause-cause
returns-in_err-flush-clause-cause g c =
    let p = err_from_is_err_and c.from_residual-in_err-flush.result c.from_residual-in_err-flush.ensures.1 in
    let failed = c.in_err-flush.ensures in
    let is : c.in_err-flush.field-0.0 ≡ CannotPrint = let cause = failed.cause in cc in
    rw (p.1, p.2) (unflushed_outcome (g.F.Files.disk c.args.files.now) c.args.path.now (outcome_of c.args.answer.now) c.args.files.now c.make_file.new.files
    (failures_of c.args.out.now) (failures_of c.print_answer.new.out) (failures_of c.flush.new.out) (g.O.Write.contents (inner_of c.args.out.now).now) (g.O.Write.contents (inner_of c.print_answer.new.out).now) (g.O.Write.contents (inner_of c.flush.new.out).now)
    _ c.in_ok-make_file.ensures.kept c.in_ok-print_answer.ensures.printed failed.kept c.in_ok-print_answer.ensures.counts failed.counts is)
