use Rattle.comp_mutator.specs.Mutators.{setup_of}
use Rattle.comp_trace.proofs.Callers.{roots_count}
use Rattle.test_traces.proofs.text_runs.root_count.Goals as goal

pub returns : goal.returns
returns g c = search (roots_count (setup_of c.args.space.now).heap c.roots-all.result.now c.roots-all.ensures)
