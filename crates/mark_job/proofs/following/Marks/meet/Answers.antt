use Rattle.mark_job.proofs.following.Marks.meet.Goals as goal

pub returns-in_default-clause-met : goal.returns-in_default-clause-met
returns-in_default-clause-met c = λ i lt address. absurd (c.in_default.not-Some i (c.index_of.ensures.only i lt address))
