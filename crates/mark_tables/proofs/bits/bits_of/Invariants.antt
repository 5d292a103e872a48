use Rattle.mark_tables.proofs.Runs.{AreMarked}
use Rattle.mark_tables.proofs.Starts.{AreStartsOf}
use Rattle.mark_tables.proofs.bits.bits_of.Given as goal

abbrev pub invariant-loop-mark : goal.invariant-loop-mark
invariant-loop-mark l = AreMarked l.heap l.marked.items l.mark-index × AreStartsOf l.heap l.mark-index l.new_index l.starts.items
