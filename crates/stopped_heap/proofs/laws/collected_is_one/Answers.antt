use Rattle.stopped_heap.proofs.InPlace.{left-the-same, collected-faultless, has-room}
use Rattle.stopped_heap.proofs.laws.collected_is_one.Goals as goal

pub returns-clause-same : goal.returns-clause-same
returns-clause-same c = left-the-same

pub returns-clause-fault : goal.returns-clause-fault
returns-clause-fault c = collected-faultless

pub returns-clause-room : goal.returns-clause-room
returns-clause-room c = has-room
