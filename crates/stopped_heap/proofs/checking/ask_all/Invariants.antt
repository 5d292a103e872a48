use Rattle.std.proofs.Common.{◌≡◌, length}
use Rattle.rest_marks.specs.Checks.{AreAsked}
use Rattle.stopped_heap.proofs.checking.ask_all.Given as goal

abbrev pub invariant-loop-k : goal.invariant-loop-k
invariant-loop-k l = record {
  asked : AreAsked l.edition l.words l.heads l.objects l.k l.fn.taken l.taken;
  long : length l.taken ≡ length l.fn.taken;
}
