use Rattle.reachability.proofs.Rising.{contains-had}
use Rattle.stopped_heap.proofs.Collected.{reached-marked}
use Rattle.stopped_heap.proofs.laws.reached_is_marked.Goals as goal

pub returns : goal.returns
returns c = λ heap i sound reached. contains-had heap.marks i (reached-marked heap sound.few_words sound.roots sound.references i reached)
