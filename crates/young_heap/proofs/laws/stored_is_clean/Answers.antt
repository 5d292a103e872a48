use Rattle.young_heap.proofs.Storing.{still-old, still-clean}
use Rattle.young_heap.proofs.laws.stored_is_clean.Goals as goal

pub returns-clause-row : goal.returns-clause-row
returns-clause-row c = λ edition words starts old asked after now stored. still-old edition words starts old asked after now stored

pub returns-clause-clean : goal.returns-clause-clean
returns-clause-clean c = λ edition words starts old asked after now stored. still-clean edition words starts old asked after now stored
