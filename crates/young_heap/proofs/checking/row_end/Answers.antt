use Rattle.std.proofs.Common.{arith}
use Rattle.young_heap.proofs.Storing.{none-old}
use Rattle.young_heap.proofs.checking.row_end.Goals as goal

pub loop-next-init : goal.loop-next-init
loop-next-init c = record { row = none-old c.args.edition c.args.words.now c.args.starts.now; within = omega arith }
