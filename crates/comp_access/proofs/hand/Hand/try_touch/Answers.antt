use Rattle.std.proofs.Common.{⊎_elim, false, sym}
use Rattle.comp_access.specs.declared.pages.Touched.TheVariants.{AlreadyBuilt}
use Rattle.comp_access.proofs.Answering.{ok_apart}
use Rattle.comp_access.proofs.PageAnswers.{not_built, page_refused_as}
use Rattle.comp_access.proofs.hand.Hand.try_touch.Goals as goal

pub returns-in-Ok-true-clause-known : goal.returns-in-Ok-true-clause-known
returns-in-Ok-true-clause-known g c = λ known.
    let built = c.in-Ok-true.ensures in
    let now = c.in-Ok-true.field-0-test in
    absurd (⊎_elim (λ seen. not_built c.in-Ok-true.field-0 now (built.seen c.requires.inside seen)) (λ start. not_built c.in-Ok-true.field-0 now (built.known start.0 start.1)) known)

pub returns-in-Err-clause-known : goal.returns-in-Err-clause-known
returns-in-Err-clause-known g c = λ known.
    let why = c.in-Err.ensures in
    let refusal = c.in-Err.refusal in
    absurd (⊎_elim (λ seen. ok_apart false refusal (sym (why.seen c.requires.inside seen))) (λ start. ok_apart false refusal (sym (why.known start.0 start.1))) known)

pub returns-in-Err-clause-refused : goal.returns-in-Err-clause-refused
returns-in-Err-clause-refused g c =
    let why = c.in-Err.ensures in
    let refusal = c.page_refusal.result in (
      why.refused,
      page_refused_as c.args.p c.args.self.now.pass c.try_build.new.pass c.in-Err.refusal refusal c.page_refusal.ensures why.busy
          (λ wanting known. ok_apart AlreadyBuilt refusal (sym (returns-in-Err-clause-known g c known))),
    )
