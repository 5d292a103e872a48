use Rattle.comp_trace.proofs.Callers.{all_of, none_done}
use Rattle.test_traces.proofs.text_runs.flipped.Goals as goal

pub returns-clause-all : goal.returns-clause-all
returns-clause-all g c = all_of c.in-Ok.space _ c.in-Ok.mutators.items c.in-Ok.ensures.of c.in-Ok.ensures.new c.in-Ok.ensures.mutators

pub returns-clause-new : goal.returns-clause-new
returns-clause-new g c = none_done _ _ c.in-Ok.mutators.items c.in-Ok.ensures.new
