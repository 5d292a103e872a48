use Rattle.test_traces.proofs.races.race_one.Given as goal

abbrev pub ghosts-raced : goal.ghosts-raced
ghosts-raced g a = record { name = a.blank.name; parts = a.blank.parts }
