use Rattle.young_heap.proofs.Beginning.{all-collected}
use Rattle.young_heap.proofs.laws.all_is_collected.Goals as goal

pub returns : goal.returns
returns c = all-collected
