use Rattle.young_heap.proofs.Storing.{all-clean}
use Rattle.young_heap.proofs.laws.remembered_is_clean.Goals as goal

pub returns : goal.returns
returns c = all-clean
