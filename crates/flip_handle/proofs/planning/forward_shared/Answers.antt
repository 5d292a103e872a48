use Rattle.std.proofs.Common.{subst}
use Rattle.heap_layout.specs.Heap.{Heap}
use Rattle.flip_handle.specs.Planning.{ForwardsBy}
use Rattle.flip_handle.proofs.planning.forward_shared.Goals as goal

pub returns : goal.returns
returns c = subst (λ (heap : Heap). ForwardsBy c.args.addresses.now c.forward_all.new.addresses heap c.forward_all.result) c.deref.ensures c.forward_all.ensures
