use Rattle.comp_cycles.proofs.Ended.{is_end, same_setup}
use Rattle.comp_cycles.proofs.laws.finished_is_end.Goals as goal

pub returns : goal.returns
returns c = record { end = is_end; setup = same_setup }
