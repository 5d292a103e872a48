use Rattle.std.proofs.Common.{arith}
use Rattle.comp_sweep.proofs.Distributions.{distributed_take}
use Rattle.comp_sweep.proofs.deques.Way.steal.Goals as goal

pub steal_as-requires-clause-takes : goal.steal_as-requires-clause-takes
steal_as-requires-clause-takes g c = distributed_take _ _ (λ far. omega (arith, c.loop.self.way))
