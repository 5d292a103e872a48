use Rattle.comp_trace.proofs.replays.replaying.replay.Goals as goal

pub returns-in-Ok-clause-ran : goal.returns-in-Ok-clause-ran
returns-in-Ok-clause-ran g c = λ start have. let ran = c.in-Ok.ensures.ran start have in (ran.0, ran.1, ran.2, ran.3)
