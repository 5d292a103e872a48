use Rattle.comp_trace.proofs.Callers.{all_of, none_done}
use Rattle.refused_runs.proofs.flipped.flipped.Goals as goal

pub returns-in-Ok-clause-all : goal.returns-in-Ok-clause-all
returns-in-Ok-clause-all g c = all_of c.in-Ok.made.0 _ c.in-Ok.made.1.items c.in-Ok.ensures.of c.in-Ok.ensures.new c.in-Ok.ensures.mutators

pub returns-in-Ok-clause-new : goal.returns-in-Ok-clause-new
returns-in-Ok-clause-new g c = none_done _ _ c.in-Ok.made.1.items c.in-Ok.ensures.new
