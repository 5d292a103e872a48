use Rattle.reachable_cycles.proofs.Lives.{cycle_keeps}
use Rattle.reachable_cycles.proofs.laws.cycle_keeps_reachable.Goals as goal

pub returns : goal.returns
returns c = cycle_keeps
