use Rattle.std.proofs.Common.{◌++◌, [], ◌∷◌, ap, ◌∙◌, arith}
use Rattle.comp_sweep.proofs.Tallies.{ways_more}
use Rattle.comp_sweep.proofs.queues.RegionQueue.hold.Goals as goal

pub returns-clause-taken : goal.returns-clause-taken
returns-clause-taken c = λ x.
    omega (arith, ways_more x c.args.self.now.ways.items c.push_reserved.new.self.items c.args.way (c.push_reserved.ensures.items ∙ ap (λ l. l ++ c.args.way ∷ []) c.reserve.ensures.items))
