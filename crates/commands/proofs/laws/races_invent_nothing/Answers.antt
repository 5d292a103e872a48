use Rattle.commands.proofs.RacesInvent.{invent_nothing}
use Rattle.commands.proofs.laws.races_invent_nothing.Goals as goal

pub returns : goal.returns
returns c = invent_nothing
