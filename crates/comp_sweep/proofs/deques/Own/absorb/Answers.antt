use Rattle.comp_sweep.proofs.Distributions.{distributed_join}
use Rattle.comp_sweep.proofs.deques.Own.absorb.Goals as goal

pub absorb-requires-clause-rule : goal.absorb-requires-clause-rule
absorb-requires-clause-rule c = distributed_join _ _ c.args.self.now.port _ _
