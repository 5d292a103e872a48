use Rattle.moved_heaps.proofs.Verdicts.{one_first}
use Rattle.moved_heaps.proofs.laws.one_first_fault.Goals as goal

pub returns : goal.returns
returns c = one_first
