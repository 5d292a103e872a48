use Rattle.comp_sweep.proofs.spawning.start.Goals as goal

pub returns-in-Ok : goal.returns-in-Ok
returns-in-Ok g c = (rw c.in-Ok.ensures.ok c.of.ensures, rw c.in-Ok.ensures.ok c.of-2.ensures)

pub returns-after-take : goal.returns-after-take
returns-after-take g c = rw c.in-Err.ensures.err at c.job.ensures
