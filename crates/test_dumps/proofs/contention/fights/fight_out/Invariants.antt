use Rattle.test_dumps.proofs.contention.fights.fight_out.Given as goal

abbrev pub ghosts-fight_named : goal.ghosts-fight_named
ghosts-fight_named g a = record { name = a.blank.name; parts = a.blank.parts }
