use Rattle.std.proofs.Common.{◌≡◌, vec_capacity}
use Rattle.rest_marks.proofs.Counts.{AreCountedTo}
use Rattle.rest_marks.proofs.block_offsets.put_offsets.Given as goal

abbrev pub invariant-loop-block : goal.invariant-loop-block
invariant-loop-block l = record {
  counted : AreCountedTo l.bits l.block-index l.total l.offsets.items;
  room : vec_capacity l.offsets ≡ vec_capacity l.fn.offsets;
}
