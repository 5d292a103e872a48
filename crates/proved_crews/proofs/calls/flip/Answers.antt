use Rattle.std.proofs.Common.{eqb-true}
use Rattle.proved_crews.proofs.Done.{flip_done}
use Rattle.proved_crews.proofs.calls.flip.Goals as goal

pub returns-clause-flipped : goal.returns-clause-flipped
returns-clause-flipped c = λ zero. flip_done c.args.name c.args.n 2 c.args.plan.now.kept c.args.crew.now.kept c.flip_crew.new.crew.kept c.flip_crew.result c.flip_crew.ensures.flips (eqb-true c.flip_crew.result.status 0 zero)
