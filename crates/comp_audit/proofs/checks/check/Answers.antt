use Rattle.comp_audit.specs.Noted.{setup_at}
use Rattle.comp_audit.proofs.Built.{lawful_pages, right_pages}
use Rattle.comp_audit.proofs.checks.check.Goals as goal

pub check_history-requires-clause-lawful : goal.check_history-requires-clause-lawful
check_history-requires-clause-lawful c = lawful_pages (setup_at c.args.setting) c.args.setting.dump.now.builds c.args.setting.dump.now.pages c.in_ok-check_pages.ensures

pub check_history-requires-clause-words : goal.check_history-requires-clause-words
check_history-requires-clause-words c = right_pages (setup_at c.args.setting) c.args.setting.dump.now.builds c.args.setting.dump.now.pages c.in_ok-check_pages.ensures
