use Rattle.std.proofs.Common.{subst}
use Rattle.heap_layout.specs.Heap.{Heap}
use Rattle.flip_handle.specs.Planning.{CopiesPlanned}
use Rattle.flip_handle.proofs.planning.copy_shared.Goals as goal

pub returns : goal.returns
returns c = subst (λ (heap : Heap). CopiesPlanned c.args.p c.args.out.now c.copy_planned.new.out heap c.copy_planned.result) c.deref.ensures c.copy_planned.ensures
