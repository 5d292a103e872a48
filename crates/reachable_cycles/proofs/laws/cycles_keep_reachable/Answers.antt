use Rattle.reachable_cycles.proofs.Lives.{cycles_keep_reachable}
use Rattle.reachable_cycles.proofs.laws.cycles_keep_reachable.Goals as goal

pub returns : goal.returns
returns c = cycles_keep_reachable
