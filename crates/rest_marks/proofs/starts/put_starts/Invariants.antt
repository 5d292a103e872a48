use Rattle.std.proofs.Common.{◌≡◌, ◌*◌, vec_capacity}
use Rattle.rest_marks.proofs.Starting.{AreStartsTo}
use Rattle.rest_marks.proofs.starts.put_starts.Given as goal

abbrev pub invariant-loop-block : goal.invariant-loop-block
invariant-loop-block l = record {
  starts : AreStartsTo l.heads l.block-index l.last l.starts.items;
  base : l.base ≡ 64 * l.block-index;
  room : vec_capacity l.starts ≡ vec_capacity l.fn.starts;
}
