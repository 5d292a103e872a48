use Rattle.comp_sweep.proofs.Distributions.{distributed_fork}
use Rattle.comp_sweep.proofs.deques.Own.way.Goals as goal

pub another-pass-requires : goal.another-pass-requires
another-pass-requires c = distributed_fork _ _ c.args.self.now.port
