use Rattle.std.proofs.Common.{◌≡◌, length}
use Rattle.rest_marks.specs.Rounds.{AreReaching}
use Rattle.rest_marks.proofs.rounds.reach.Given as goal

abbrev pub invariant-loop-turns : goal.invariant-loop-turns
invariant-loop-turns g l = record {
  met : AreReaching l.edition l.words l.roots l.queue.items l.heads;
  long : length l.heads ≡ length l.fn.heads;
}

abbrev pub decreases-loop-turns : goal.decreases-loop-turns
decreases-loop-turns g l = l.turns
