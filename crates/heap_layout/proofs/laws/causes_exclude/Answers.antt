use Rattle.std.proofs.Common.{None, Some}
use Rattle.heap_layout.specs.Encoding.{encoding}
use Rattle.heap_layout.proofs.Verdicts.{verdicts_agree, refusal_is_verdict, accepted_is_verdict}
use Rattle.heap_layout.proofs.laws.causes_exclude.Goals as goal

pub returns-clause-one_cause : goal.returns-clause-one_cause
returns-clause-one_cause c = λ large bytes one other of_one of_other refuses_one refuses_other.
    let same = verdicts_agree large bytes (Some one) (Some other) (refusal_is_verdict large one bytes of_one refuses_one) (refusal_is_verdict large other bytes of_other refuses_other) in
    cc

pub returns-clause-none_where_accepted : goal.returns-clause-none_where_accepted
returns-clause-none_where_accepted c = λ large heap fault read stored accepted of_bytes refuses.
    let same = verdicts_agree large (encoding heap) None (Some fault) (accepted_is_verdict large heap read stored accepted) (refusal_is_verdict large fault (encoding heap) of_bytes refuses) in
    cc
