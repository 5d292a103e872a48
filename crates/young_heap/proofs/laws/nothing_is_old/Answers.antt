use Rattle.young_heap.proofs.Storing.{none-old, none-asked}
use Rattle.young_heap.proofs.laws.nothing_is_old.Goals as goal

pub returns-clause-row : goal.returns-clause-row
returns-clause-row c = none-old

pub returns-clause-clean : goal.returns-clause-clean
returns-clause-clean c = none-asked
