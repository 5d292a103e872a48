use Rattle.commands.proofs.Reasons.{said_and_flushed}
use Rattle.commands.proofs.running.say.Goals as goal

pub returns-in-Ok : goal.returns-in-Ok
returns-in-Ok g c = said_and_flushed _ _ _ _ _ _ c.args.refusal c.flush.result c.in-Ok.ensures.printed c.in-Ok.ensures.counts c.flush.ensures.kept c.flush.ensures.counts c.flush.ensures.cause
