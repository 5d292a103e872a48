use Rattle.young_heap.proofs.Gathering.{gathered-remembered}
use Rattle.young_heap.proofs.laws.gathered_is_remembered.Goals as goal

pub returns : goal.returns
returns c = gathered-remembered
