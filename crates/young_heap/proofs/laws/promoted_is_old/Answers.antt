use Rattle.young_heap.proofs.Closing.{next-old, next-clean}
use Rattle.young_heap.proofs.laws.promoted_is_old.Goals as goal

pub returns-clause-row : goal.returns-clause-row
returns-clause-row c = λ edition words roots heads next old total new_roots after is old_are kept starts all.
    next-old edition words roots heads next old total new_roots after is old_are kept starts all

pub returns-clause-clean : goal.returns-clause-clean
returns-clause-clean c = λ edition words roots heads next old total new_roots after is old_are kept starts all.
    next-clean edition words roots heads next old total new_roots after is old_are kept starts all
