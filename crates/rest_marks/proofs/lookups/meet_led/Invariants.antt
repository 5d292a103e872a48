use Rattle.std.proofs.Common.{◌≡◌, ◌≤◌, length}
use Rattle.rest_marks.specs.Rounds.{AreReaching}
use Rattle.rest_marks.proofs.lookups.meet_led.Given as goal

abbrev pub invariant-loop-k : goal.invariant-loop-k
invariant-loop-k l = record {
  met : AreReaching l.edition l.words l.roots l.queue.items l.heads;
  longer : length l.fn.queue.items ≤ length l.queue.items;
  long : length l.heads ≡ length l.fn.heads;
}
