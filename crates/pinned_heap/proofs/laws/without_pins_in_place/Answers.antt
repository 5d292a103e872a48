use Rattle.pinned_heap.proofs.Unpinned.{collected-in_place}
use Rattle.pinned_heap.proofs.laws.without_pins_in_place.Goals as goal

pub returns : goal.returns
returns c = λ edition words roots new_roots after end runs is. collected-in_place edition words roots new_roots after end runs is
