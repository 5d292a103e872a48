use Rattle.std.proofs.Common.{arith}
use Rattle.comp_sweep.proofs.Distributions.{distributed_out, distributed_take}
use Rattle.comp_sweep.proofs.deques.Own.take.Goals as goal

pub pop_as-requires-clause-fifo : goal.pop_as-requires-clause-fifo
pop_as-requires-clause-fifo c = λ zero. distributed_take _ _ (λ far. absurd (omega (arith, far, c.args.self.now.port)))

pub pop_as-requires-clause-empty : goal.pop_as-requires-clause-empty
pop_as-requires-clause-empty c = distributed_out _ _ c.args.self.now.port
