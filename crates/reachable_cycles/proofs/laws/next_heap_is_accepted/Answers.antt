use Rattle.std.proofs.Common.{arith}
use Rattle.reachable_cycles.proofs.NextMarks.{forwarded_lead, forwarded_long, next_accepted}
use Rattle.reachable_cycles.proofs.laws.next_heap_is_accepted.Goals as goal

pub returns-clause-stayed : goal.returns-clause-stayed
returns-clause-stayed c = λ u journals roots marks closed can forwards few are.
    let lead = forwarded_lead u journals roots closed forwards in
    let few_roots = closed.few_roots in
    next_accepted u journals closed can roots marks lead few are (omega (arith, forwarded_long u roots forwards))

pub returns-clause-handed : goal.returns-clause-handed
returns-clause-handed c = λ u journals roots marks closed can lead fits are. next_accepted u journals closed can roots marks lead fits.few_words are fits.few_roots
