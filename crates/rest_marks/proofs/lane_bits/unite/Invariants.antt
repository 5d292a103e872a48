use Rattle.rest_marks.proofs.LaneSets.{AreUnited}
use Rattle.rest_marks.proofs.lane_bits.unite.Given as goal

abbrev pub invariant-loop-b : goal.invariant-loop-b
invariant-loop-b l = AreUnited l.fn.bits l.other l.b l.bits
