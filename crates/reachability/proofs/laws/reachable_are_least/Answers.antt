use Rattle.heap_layout.proofs.Marked.{closed}
use Rattle.reachability.proofs.Rising.{contains-had}
use Rattle.reachability.proofs.Least.{reachable-marked, accepted-least}
use Rattle.reachability.proofs.laws.reachable_are_least.Goals as goal

pub returns-clause-marked : goal.returns-clause-marked
returns-clause-marked c = λ heap i accepted reached. contains-had heap.marks i (reachable-marked heap (closed heap accepted) i reached)

pub returns-clause-accepted : goal.returns-clause-accepted
returns-clause-accepted c = accepted-least
