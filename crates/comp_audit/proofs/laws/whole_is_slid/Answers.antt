use Rattle.comp_audit.proofs.Whole.{unwritten_is_slid, whole_is_replayed}
use Rattle.comp_audit.proofs.laws.whole_is_slid.Goals as goal

pub returns-clause-replayed : goal.returns-clause-replayed
returns-clause-replayed c = whole_is_replayed

pub returns-clause-unwritten : goal.returns-clause-unwritten
returns-clause-unwritten c = unwritten_is_slid
