use Rattle.std.proofs.Common.{◌≡◌, ◌∙◌, ap, subst, List, ℕ}
use Rattle.comp_journal.specs.Journal.{replayed}
use Rattle.comp_history.specs.Setup.{base_of}
use Rattle.comp_audit.specs.Checks.{same_words}
use Rattle.comp_audit.specs.Reported.{Reports}
use Rattle.comp_audit.specs.Noted.{setup_at}
use Rattle.comp_audit.proofs.checks.page_words.check_page.Goals as goal

pub returns : goal.returns
returns c =
    let u = setup_at c.args.setting in
    let right : c.as_array.result.now ≡ replayed (base_of u c.args.p) c.args.page.now.journal =
    c.as_array.ensures
    ∙ c.in_ok-right.ensures
    ∙ ap (replayed (base_of u c.args.p)) c.journal.ensures in
    subst (λ (xs : List ℕ). Reports (same_words xs c.args.p c.args.page.now.words) c.check_same.result) right
    (subst (λ (ys : List ℕ). Reports (same_words c.as_array.result.now c.args.p ys) c.check_same.result) c.words.ensures c.check_same.ensures)
