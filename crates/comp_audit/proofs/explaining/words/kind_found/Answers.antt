use Rattle.std.proofs.Common.{◌∙◌, List, Option, ap, refl}
use Rattle.comp_dump.specs.Dumped.{BuiltPage}
use Rattle.comp_dump.specs.Entry.{Entry}
use Rattle.comp_dump.specs.Lawful.{kind_at}
use Rattle.comp_audit.specs.EntryCauses.{setup_of}
use Rattle.comp_audit.specs.Checks.{journals_in}
use Rattle.comp_audit.proofs.explaining.words.kind_found.Goals as goal

pub returns : goal.returns
returns c =
    let u = setup_of c.args.plan.now c.args.dump.now in
    let entries = c.journal_of-entries.ensures ∙ ap (λ (records : List (Option BuiltPage)). journals_in records c.args.p) c.pages.ensures in
    c.word_kind.ensures u refl refl ∙ ap (λ (journal : List Entry). kind_at u c.args.p journal c.args.offset) entries
