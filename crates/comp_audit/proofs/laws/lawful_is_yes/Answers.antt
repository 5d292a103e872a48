use Rattle.comp_audit.proofs.Accepting.{lawful_is_yes}
use Rattle.comp_audit.proofs.FinishedYes.{finished_is_yes}
use Rattle.comp_audit.proofs.laws.lawful_is_yes.Goals as goal

pub returns-clause-lawful : goal.returns-clause-lawful
returns-clause-lawful c = lawful_is_yes

pub returns-clause-finished : goal.returns-clause-finished
returns-clause-finished c = finished_is_yes
