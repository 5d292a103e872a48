use Rattle.std.proofs.Common.{◌≡◌, length}
use Rattle.rest_marks.specs.Rounds.{AreReaching}
use Rattle.rest_marks.proofs.lookups.meet_parts.Given as goal

abbrev pub invariant-loop-part : goal.invariant-loop-part
invariant-loop-part l = record {
  met : AreReaching l.edition l.words l.roots l.queue.items l.heads;
  long : length l.heads ≡ length l.fn.heads;
}
