use Rattle.std.proofs.Common.{◌∙◌, ◌++◌, List, Option, Err, ap, subst, sym}
use Rattle.std.proofs.lemmas.Result.{err_from_is_err_and}
use Rattle.comp_dump.specs.Dumped.{BuiltPage}
use Rattle.comp_audit.specs.Checks.{all_stamps, is_led, late_faults, missing_faults, repeat_faults}
use Rattle.comp_audit.specs.Reported.{Reports}
use Rattle.comp_audit.specs.Noted.{is_noted_before, setup_at}
use Rattle.comp_audit.proofs.Judging.{references_end, stamps_end, late_end}
use Rattle.comp_audit.proofs.checks.check_history.Goals as goal

pub returns-in_err-check_references : goal.returns-in_err-check_references
returns-in_err-check_references c =
    let p = err_from_is_err_and c.from_residual-in_err-check_references.result c.from_residual-in_err-check_references.ensures.1 in
    rw (p.1, p.2) (references_end (setup_at c.args.setting) c.args.setting.dump.now.pages c.in_ok-starts.starts c.in_ok-starts.ensures _ c.in_err-check_references.ensures)

pub returns-in_err-check_stamps : goal.returns-in_err-check_stamps
returns-in_err-check_stamps c =
    let p = err_from_is_err_and c.from_residual-in_err-check_stamps.result c.from_residual-in_err-check_stamps.ensures.1 in
    rw (p.1, p.2)
    (stamps_end (setup_at c.args.setting) c.args.setting.dump.now.pages c.in_ok-starts.starts c.in_ok-starts.ensures _ c.in_ok-check_references.ensures
    (subst (λ (records : List (Option BuiltPage)). Reports (repeat_faults (all_stamps records) ++ missing_faults (all_stamps records)) (Err c.in_err-check_stamps.field-0.0)) c.pages-records.ensures c.in_err-check_stamps.ensures))

pub returns : goal.returns
returns c =
    late_end (setup_at c.args.setting) c.args.setting.dump.now.pages c.in_ok-starts.starts c.in_ok-starts.ensures c.check_late.result c.in_ok-check_references.ensures
    (ap (λ (records : List (Option BuiltPage)). repeat_faults (all_stamps records) ++ missing_faults (all_stamps records)) (sym c.pages-records.ensures) ∙ c.in_ok-check_stamps.ensures)
    (subst (λ (records : List (Option BuiltPage)). Reports (late_faults (is_led c.args.setting.plan.now (is_noted_before c.in_ok-starts.starts)) records) c.check_late.result) c.pages-records.ensures c.check_late.ensures)
