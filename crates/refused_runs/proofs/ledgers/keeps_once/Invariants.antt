use Rattle.refused_runs.proofs.ledgers.keeps_once.Given as goal

abbrev pub ghosts-keeps_named : goal.ghosts-keeps_named
ghosts-keeps_named g a = record { name = a.blank.name; parts = a.blank.parts }
