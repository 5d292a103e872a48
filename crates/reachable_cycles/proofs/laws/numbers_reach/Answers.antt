use Rattle.reachable_cycles.proofs.Numbers.{numbers_reach}
use Rattle.reachable_cycles.proofs.laws.numbers_reach.Goals as goal

pub returns : goal.returns
returns c = λ heap numbers stable i closed is apart marked. numbers_reach heap numbers stable closed is apart i marked
