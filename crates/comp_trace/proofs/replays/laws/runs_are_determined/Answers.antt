use Rattle.comp_trace.proofs.Determined.{determined}
use Rattle.comp_trace.proofs.replays.laws.runs_are_determined.Goals as goal

pub returns : goal.returns
returns c = determined
