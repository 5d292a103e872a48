use Rattle.stopped_heap.proofs.Unchanged.{no-refusal}
use Rattle.stopped_heap.proofs.laws.found_has_no_fault.Goals as goal

pub returns : goal.returns
returns c = λ found heap first count fault of within is. no-refusal found heap first count fault of within is
