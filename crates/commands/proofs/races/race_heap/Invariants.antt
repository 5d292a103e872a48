use Rattle.commands.proofs.races.race_heap.Given as goal

abbrev pub ghosts-flipped_and_raced : goal.ghosts-flipped_and_raced
ghosts-flipped_and_raced g a = record { name = a.blank.name; parts = a.blank.parts }
