use Rattle.std.proofs.lemmas.Option.{IfSome_then}
use Rattle.proved_crews.proofs.Living.{lives}
use Rattle.proved_crews.proofs.lives.live_twice.Goals as goal

pub returns : goal.returns
returns c =
    IfSome_then c.cycle-2.result c.cycle-2.ensures (λ last done.
    lives c.one_life.ensures c.args.heap c.in_ok-next.next last c.args.roots.now c.args.last_roots.now c.marks.ensures.closed c.in_ok-next.ensures done)
