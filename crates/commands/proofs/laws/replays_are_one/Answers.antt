use Rattle.commands.proofs.Once.{are_one}
use Rattle.commands.proofs.laws.replays_are_one.Goals as goal

pub returns : goal.returns
returns c = are_one c.images_differ.ensures
