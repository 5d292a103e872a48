use Rattle.std.proofs.Common.{◌∙◌}
use Rattle.commands.proofs.Trailers.{no_head}
use Rattle.commands.proofs.long_version.told_in.Goals as goal

pub returns-in-None : goal.returns-in-None
returns-in-None c = no_head c.args.bytes.now (λ rest is. c.in-None.ensures rest (c.last_of.ensures ∙ is))
