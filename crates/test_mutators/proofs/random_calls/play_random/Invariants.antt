use Rattle.test_mutators.proofs.random_calls.play_random.Given as goal

abbrev pub ghosts-play_and_finish : goal.ghosts-play_and_finish
ghosts-play_and_finish g a = record { name = a.blank.name; parts = a.blank.parts }
