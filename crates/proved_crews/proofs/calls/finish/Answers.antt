use Rattle.std.proofs.Common.{eqb-true}
use Rattle.proved_crews.proofs.Done.{finish_done}
use Rattle.proved_crews.proofs.calls.finish.Goals as goal

pub returns : goal.returns
returns c = λ zero. finish_done c.args.crew.now.kept c.finish_crew.new.crew.kept c.args.end.now.kept c.finish_crew.new.end.kept c.finish_crew.result c.finish_crew.ensures (eqb-true c.finish_crew.result.status 0 zero)
