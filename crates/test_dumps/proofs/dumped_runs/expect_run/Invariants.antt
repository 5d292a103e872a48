use Rattle.test_dumps.proofs.dumped_runs.expect_run.Given as goal

abbrev pub ghosts-expect_run_of : goal.ghosts-expect_run_of
ghosts-expect_run_of g a = record { name = a.blank.name; parts = a.blank.parts }
