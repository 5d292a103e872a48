use Rattle.std.proofs.Common.{arith}
use Rattle.comp_sweep.specs.Queues.{own_view}
use Rattle.comp_sweep.proofs.Tallies.{times_more}
use Rattle.comp_sweep.proofs.queues.RegionQueue.next_region.Goals as goal

pub returns-in-Some-clause-some : goal.returns-in-Some-clause-some
returns-in-Some-clause-some g c = λ x.
    omega (arith, times_more x c.in-Some.region (own_view c.args.self.now.own).taken (own_view c.take.new.self).taken c.in-Some.ensures.some)
