use Rattle.std.proofs.Common.{◌≡◌, ◌≤◌, length}
use Rattle.rest_marks.specs.Rounds.{AreReaching}
use Rattle.rest_marks.proofs.rounds.follow_alone_by.Given as goal

abbrev pub invariant-loop-turns : goal.invariant-loop-turns
invariant-loop-turns l = record {
  met : AreReaching l.edition l.words l.roots l.queue.items l.heads;
  longer : length l.fn.queue.items ≤ length l.queue.items;
  order : l.next ≤ l.end;
  long : length l.heads ≡ length l.fn.heads;
}

abbrev pub decreases-loop-turns : goal.decreases-loop-turns
decreases-loop-turns l = l.turns
