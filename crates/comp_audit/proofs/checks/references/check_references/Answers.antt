use Rattle.std.proofs.Common.{◌∙◌, List, None, Option, ap, get_or, sym}
use Rattle.comp_dump.specs.Dumped.{BuiltPage}
use Rattle.comp_audit.specs.Checks.{word_faults}
use Rattle.comp_audit.specs.Noted.{setup_at}
use Rattle.comp_audit.proofs.Built.{built_none}
use Rattle.comp_audit.proofs.checks.references.check_references.Goals as goal

pub check_page-requires-clause-words : goal.check_page-requires-clause-words
check_page-requires-clause-words c =
    built_none (word_faults (setup_at c.args.setting)) c.args.setting.dump.now.pages c.loop-p.p c.in-Some.page c.requires.words
    (ap (λ (records : List (Option BuiltPage)). get_or records c.loop-p.p None) (sym c.pages-records.ensures) ∙ sym c.page.ensures ∙ c.in-Some.is)
