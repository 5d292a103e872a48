use Rattle.test_mutators.proofs.sweeping.whole_sweeps.play_built.Given as goal

abbrev pub ghosts-play : goal.ghosts-play
ghosts-play g a = record { name = a.blank.name; parts = a.blank.parts }
