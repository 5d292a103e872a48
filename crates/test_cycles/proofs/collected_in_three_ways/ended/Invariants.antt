use Rattle.test_cycles.proofs.collected_in_three_ways.ended.Given as goal

abbrev pub ghosts-cycle : goal.ghosts-cycle
ghosts-cycle g a = record { name = a.blank.name; parts = a.blank.parts }
