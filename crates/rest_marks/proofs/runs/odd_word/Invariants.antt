use Rattle.rest_marks.proofs.RunBlocks.{AreRunsTo, SaysLive}
use Rattle.rest_marks.proofs.runs.odd_word.Given as goal

abbrev pub invariant-loop-b : goal.invariant-loop-b
invariant-loop-b l = AreRunsTo l.heads l.bits l.b × SaysLive l.bits l.b l.before
