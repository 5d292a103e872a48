use Rattle.std.proofs.Common.{IfErr, OnOk, refl, subst, sym}
use Rattle.std.proofs.lemmas.Result.{IfErr-weaker}
use Rattle.commands.specs.TaskAnswers.{outcome_of}
use Rattle.commands.specs.UnkeptFiles.{IsUnkept}
use Rattle.commands.specs.Outcome.{IsKept}
use Rattle.commands.specs.declared.answers.Answer.{Answer}
use Rattle.commands.proofs.delivering.make_file.Goals as goal

pub returns-in-Followed-clause-kept : goal.returns-in-Followed-clause-kept
returns-in-Followed-clause-kept g c =
    let made = c.write_to-in-Followed in
    subst (λ (answer : Answer). OnOk made.result (IsKept (g.F.Files.disk c.args.files.now) c.args.path.now (outcome_of answer).made c.args.files.now made.new.files)) (sym c.in-Followed.is) made.ensures.written

pub returns-in-Followed-clause-cause : goal.returns-in-Followed-clause-cause
returns-in-Followed-clause-cause g c =
    let made = c.write_to-in-Followed in
    subst (λ (answer : Answer). IfErr made.result (IsUnkept (g.F.Files.disk c.args.files.now) c.args.path.now (outcome_of answer).made c.args.files.now made.new.files)) (sym c.in-Followed.is)
    (IfErr-weaker made.result _ _ (λ refusal h. (_, refl, h)) made.ensures.cause)
