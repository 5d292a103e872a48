use Rattle.std.proofs.lemmas.Bool.Decides.{Decides-eqb}
use Rattle.std.proofs.lemmas.Slice.Eq.{strip_prefix_is}
use Rattle.commands.specs.LongVersion.{trailer_head}
use Rattle.commands.proofs.long_version.behind_head.Goals as goal

pub returns : goal.returns
returns c = strip_prefix_is Decides-eqb c.args.tail.now trailer_head _ c.strip_prefix.ensures.cases
