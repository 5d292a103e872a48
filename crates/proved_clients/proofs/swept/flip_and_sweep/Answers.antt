use Rattle.std.proofs.Common.{◌<◌, subst, sym}
use Rattle.proved_clients.proofs.swept.flip_and_sweep.Goals as goal

pub returns-in-Ok-sweep : goal.returns-in-Ok-sweep
returns-in-Ok-sweep g c = λ p lt. c.in-Ok-sweep.ensures.built p (subst (λ n. p < n) (sym c.in-Ok.ensures.compacted) lt)
