use Rattle.comp_audit.specs.Checks.{is_led}
use Rattle.comp_audit.specs.Noted.{is_noted_before}
use Rattle.comp_audit.proofs.Earliest.{earliest_first, none_late}
use Rattle.comp_audit.proofs.checks.late.check_late.Goals as goal

pub returns-in-None : goal.returns-in-None
returns-in-None c = none_late (is_led c.args.plan.now (is_noted_before c.args.starts.now)) c.args.records.now c.in-None.ensures

pub returns-in-Some : goal.returns-in-Some
returns-in-Some c = earliest_first (is_led c.args.plan.now (is_noted_before c.args.starts.now)) c.args.records.now c.in-Some.late c.in-Some.ensures
