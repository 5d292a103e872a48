use Rattle.comp_trace.proofs.Causes.{of_runs}
use Rattle.comp_trace.proofs.replays.laws.refusals_are_of_runs.Goals as goal

pub returns : goal.returns
returns c = of_runs
