use Rattle.std.proofs.Common.{subst}
use Rattle.heap_layout.specs.Heap.{Heap}
use Rattle.file_handle.specs.Judging.{JudgesBy}
use Rattle.file_handle.proofs.judging.judge_shared.Goals as goal

pub returns : goal.returns
returns c = subst (λ (heap : Heap). JudgesBy c.args.options c.args.bytes.now heap c.judge_by.result) c.deref.ensures c.judge_by.ensures
