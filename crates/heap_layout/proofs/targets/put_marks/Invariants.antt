use Rattle.heap_layout.proofs.MarkBits.{AreMarked}
use Rattle.heap_layout.proofs.targets.put_marks.Given as goal

abbrev pub invariant-loop-mark : goal.invariant-loop-mark
invariant-loop-mark l = AreMarked l.marks l.bits l.mark-index
