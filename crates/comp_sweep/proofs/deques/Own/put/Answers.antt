use Rattle.comp_sweep.proofs.Distributions.{distributed_put}
use Rattle.comp_sweep.proofs.deques.Own.put.Goals as goal

pub push_as-requires-clause-pushes : goal.push_as-requires-clause-pushes
push_as-requires-clause-pushes c = distributed_put _ _ c.args.self.now.port _
