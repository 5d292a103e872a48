use Rattle.timed_calls.proofs.running.done_once.Given as goal

abbrev pub ghosts-done_named : goal.ghosts-done_named
ghosts-done_named g a = record { name = a.blank.name; parts = a.blank.parts }
