use Rattle.comp_trace.proofs.Bytes.{show_once}
use Rattle.comp_trace.proofs.replays.laws.replays_show_once.Goals as goal

pub returns : goal.returns
returns c = show_once c.images_differ.ensures
