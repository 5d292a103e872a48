use Rattle.refused_runs.proofs.mutator_runs.plays_once.Given as goal

abbrev pub ghosts-plays_named : goal.ghosts-plays_named
ghosts-plays_named g a = record { name = a.blank.name; parts = a.blank.parts }
