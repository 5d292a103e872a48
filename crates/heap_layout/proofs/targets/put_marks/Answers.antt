use Rattle.std.proofs.Common.{arith}
use Rattle.heap_layout.proofs.MarkBits.{leads-targets}
use Rattle.heap_layout.proofs.targets.put_marks.Goals as goal

pub returns-clause-marks : goal.returns-clause-marks
returns-clause-marks c = leads-targets c.args.marks.now c.loop-mark.bits c.loop-mark.mark-index (omega arith) c.loop-mark.invariant
