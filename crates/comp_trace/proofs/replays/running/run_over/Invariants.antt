use Rattle.comp_trace.proofs.replays.running.run_over.Given as goal

abbrev pub ghosts-flipped_and_run : goal.ghosts-flipped_and_run
ghosts-flipped_and_run a = record { name = a.blank.name; parts = a.blank.parts }
