use Rattle.std.proofs.Common.{refl, ap, arith}
use Rattle.comp_mutator.specs.Lists.{only, times}
use Rattle.comp_mutator.proofs.Sums.{total-append}
use Rattle.comp_sweep.specs.declared.distributing.Hand.{Hand}
use Rattle.comp_sweep.specs.Queues.{own_view, way_view}
use Rattle.comp_sweep.proofs.queues.RegionQueue.absorb.Goals as goal

pub returns : goal.returns
returns c =
    let e = c.absorb.ensures.view in
    let before = (own_view c.args.self.now.own).taken in
    let came = (way_view c.args.way).taken in record {
      deque = c.absorb.ensures.deque;
      put = ap (λ (v : Hand). v.put) e;
      out = ap (λ (v : Hand). v.out) e;
      back = ap (λ (v : Hand). v.back) e;
      ways = refl;
      taken = λ x. omega (arith, ap (λ (v : Hand). times x v.taken) e, total-append (only x) before came);
    }
