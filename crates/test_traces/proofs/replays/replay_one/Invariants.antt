use Rattle.test_traces.proofs.replays.replay_one.Given as goal

abbrev pub ghosts-replayed : goal.ghosts-replayed
ghosts-replayed g a = record { name = a.blank.name; parts = a.blank.parts }
