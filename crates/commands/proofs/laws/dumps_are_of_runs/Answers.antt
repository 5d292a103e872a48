use Rattle.commands.proofs.DumpsAfter.{dumps_are_of_runs}
use Rattle.commands.proofs.laws.dumps_are_of_runs.Goals as goal

pub returns : goal.returns
returns c = dumps_are_of_runs
