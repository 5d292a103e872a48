use Rattle.commands.proofs.Succeeding.{are_one_life, next_follows, two_are_one_life}
use Rattle.commands.proofs.laws.nexts_are_one_life.Goals as goal

pub returns : goal.returns
returns c = record { follows = next_follows c.images_differ.ensures; life = are_one_life c.one_life.ensures; two = two_are_one_life c.one_life.ensures c.images_differ.ensures }
