use Rattle.std.proofs.Common.{refl}
use Rattle.comp_cycles.specs.Ends.{cycle_of, cycle_with}
use Rattle.comp_cycles.proofs.Given.{cycle-low, end-low}
use Rattle.comp_cycles.proofs.laws.addresses_are_low.Goals as goal

pub returns-clause-cycle : goal.returns-clause-cycle
returns-clause-cycle c = cycle-low

pub returns-clause-end : goal.returns-clause-end
returns-clause-end c = λ heap f marks e. end-low heap f (cycle_of heap f marks) e refl

pub returns-clause-handed : goal.returns-clause-handed
returns-clause-handed c = λ heap f roots marks e. end-low heap f (cycle_with heap f roots marks) e refl
