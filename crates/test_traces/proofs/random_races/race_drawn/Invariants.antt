use Rattle.test_traces.proofs.random_races.race_drawn.Given as goal

abbrev pub ghosts-raced : goal.ghosts-raced
ghosts-raced g a = record { name = a.blank.name; parts = a.blank.parts }
