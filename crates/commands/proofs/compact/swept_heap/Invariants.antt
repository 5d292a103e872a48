use Rattle.commands.proofs.compact.swept_heap.Given as goal

abbrev pub ghosts-flipped_and_swept : goal.ghosts-flipped_and_swept
ghosts-flipped_and_swept g a = record { name = a.blank.name; parts = a.blank.parts }
