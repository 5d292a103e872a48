use Rattle.std.proofs.Common.{inl, refl}
use Rattle.commands.proofs.races.raced.Goals as goal

pub returns-in-Ok-clause-outcome : goal.returns-in-Ok-clause-outcome
returns-in-Ok-clause-outcome g c = inl (c.in-Ok.shown.items, c.in-Ok.finished, c.in-Ok.ensures.raced, refl)
