use Rattle.young_heap.proofs.Next.{all-old, none-remembered}
use Rattle.young_heap.proofs.laws.collected_is_old.Goals as goal

pub returns-clause-row : goal.returns-clause-row
returns-clause-row c = λ heap starts sound same. all-old heap sound starts same

pub returns-clause-clean : goal.returns-clause-clean
returns-clause-clean c = λ heap starts sound same. none-remembered heap sound starts same
