use Rattle.std.proofs.Common.{◌≤◌, length, vec_capacity}
use Rattle.rest_marks.proofs.Inverting.{AreInverted}
use Rattle.rest_marks.proofs.bits.inverted.Given as goal

abbrev pub invariant-loop-block : goal.invariant-loop-block
invariant-loop-block l = record {
  inverted : AreInverted l.bits l.others.items l.block-index;
  room : length l.bits ≤ vec_capacity l.others;
}
