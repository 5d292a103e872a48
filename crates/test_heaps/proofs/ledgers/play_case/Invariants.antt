use Rattle.test_heaps.proofs.ledgers.play_case.Given as goal

abbrev pub ghosts-play_named : goal.ghosts-play_named
ghosts-play_named g a = record { name = a.blank.name; parts = a.blank.parts }
