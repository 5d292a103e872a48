use Rattle.test_traces.proofs.random_traces.replay_drawn.Given as goal

abbrev pub ghosts-replayed : goal.ghosts-replayed
ghosts-replayed g a = record { name = a.blank.name; parts = a.blank.parts }
