use Rattle.mark_job.proofs.marking.begin_with.Goals as goal

pub returns-in_default-clause-marked : goal.returns-in_default-clause-marked
returns-in_default-clause-marked c = λ i lt address. absurd (c.in_default.not-Some i (c.index_of.ensures.only i lt address))
