use Rattle.std.proofs.Common.{eqb-true}
use Rattle.proved_crews.proofs.Done.{follow_done}
use Rattle.proved_crews.proofs.calls.follow.Goals as goal

pub returns : goal.returns
returns c = λ zero. follow_done c.args.roots.now c.args.end.now.kept c.follow_reached.new.end.kept c.args.next.now.kept c.follow_reached.new.heap.kept c.follow_reached.result c.follow_reached.ensures (eqb-true c.follow_reached.result.status 0 zero)
