use Rattle.refused_runs.proofs.replaying.replays_once.Given as goal

abbrev pub ghosts-replays_named : goal.ghosts-replays_named
ghosts-replays_named g a = record { name = a.blank.name; parts = a.blank.parts }
