use Rattle.test_mutators.proofs.mutated_heaps.play_built.Given as goal

abbrev pub ghosts-play_flipped : goal.ghosts-play_flipped
ghosts-play_flipped g a = record { name = a.blank.name; parts = a.blank.parts }
