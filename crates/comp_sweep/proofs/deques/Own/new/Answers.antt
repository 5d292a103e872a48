use Rattle.comp_sweep.proofs.Distributions.{begins}
use Rattle.comp_sweep.proofs.deques.Own.new.Goals as goal

pub fifo_as-requires : goal.fifo_as-requires
fifo_as-requires c = begins
