use Rattle.stopped_cycles.proofs.Renumbering.{numbered-collected}
use Rattle.stopped_cycles.proofs.laws.collected_in_object_numbers.Goals as goal

pub returns : goal.returns
returns c = numbered-collected
