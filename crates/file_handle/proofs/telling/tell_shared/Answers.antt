use Rattle.std.proofs.Common.{subst}
use Rattle.heap_layout.specs.Heap.{Heap}
use Rattle.file_handle.specs.Telling.{ExplainsBy}
use Rattle.file_handle.proofs.telling.tell_shared.Goals as goal

pub returns : goal.returns
returns c = subst (λ (heap : Heap). ExplainsBy c.args.options c.args.bytes.now c.args.out.now c.tell_by.new.out heap c.tell_by.result) c.deref.ensures c.tell_by.ensures
