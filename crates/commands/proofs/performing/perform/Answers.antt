use Rattle.std.proofs.Common.{subst, sym}
use Rattle.std.proofs.lemmas.Result.{err_from_is_err_and}
use Rattle.heap_layout.specs.Counted.{inner_of, failures_of}
use Rattle.commands.specs.TaskAnswers.{outcome_of}
use Rattle.commands.specs.Tasks.{IsOutcomeOf}
use Rattle.commands.proofs.Answered.{unanswered}
use Rattle.commands.proofs.Unprinted.{counted, counted_result}
use Rattle.commands.proofs.performing.perform.Goals as goal

pub returns-in_err-answer-clause-cause : goal.returns-in_err-answer-clause-cause
returns-in_err-answer-clause-cause g c =
    let p = err_from_is_err_and c.from_residual.result c.from_residual.ensures.1 in
    rw (p.1, p.2) (unanswered (g.F.Files.disk c.args.files.now) c.args.files.now c.answer_of.new.files (failures_of c.args.out.now) (g.O.Write.contents (inner_of c.args.out.now).now) c.args.task _ c.in_err-answer.ensures)

pub returns-in_err-answer-clause-counts : goal.returns-in_err-answer-clause-counts
returns-in_err-answer-clause-counts g c =
    let p = err_from_is_err_and c.from_residual.result c.from_residual.ensures.1 in
    let n = failures_of c.args.out.now in
    let before = g.O.Write.contents (inner_of c.args.out.now).now in
    rw (p.1, p.2) (counted (g.F.Files.disk c.args.files.now) c.args.files.now c.answer_of.new.files n n before before c.args.task _
    (unanswered (g.F.Files.disk c.args.files.now) c.args.files.now c.answer_of.new.files n before c.args.task _ c.in_err-answer.ensures))

pub returns-clause-counts : goal.returns-clause-counts
returns-clause-counts g c =
    let answer = c.in_ok-answer.answer in
    let comes = c.in_ok-answer.ensures.0 in
    let same = c.in_ok-answer.ensures.2 in
    counted_result (g.F.Files.disk c.answer_of.new.files) c.path_of-path.result.now c.args.task (outcome_of answer) c.answer_of.new.files c.deliver.new.files (failures_of c.args.out.now) (failures_of c.deliver.new.out)
    (g.O.Write.contents (inner_of c.args.out.now).now) (g.O.Write.contents (inner_of c.deliver.new.out).now) c.deliver.result c.path_of-path.ensures
    (subst (λ files. IsOutcomeOf (g.F.Files.disk files) c.args.task (outcome_of answer)) (sym same) comes) c.deliver.ensures.counts c.deliver.ensures.cause
