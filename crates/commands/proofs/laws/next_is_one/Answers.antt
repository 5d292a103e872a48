use Rattle.commands.proofs.Succeeding.{next_is_one}
use Rattle.commands.proofs.laws.next_is_one.Goals as goal

pub returns : goal.returns
returns c = next_is_one c.images_differ.ensures c.reachable_once.ensures.one
