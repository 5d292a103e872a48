use Rattle.std.proofs.Common.{◌<◌, length, set, ap, ◌∙◌, arith, rules}
use Rattle.comp_mutator.specs.Lists.{times}
use Rattle.comp_mutator.proofs.Sums.{total-set}
use Rattle.comp_mutator.proofs.Rows.{at_value}
use Rattle.comp_sweep.specs.declared.deques.Way.{Way}
use Rattle.comp_sweep.specs.Queues.{way_name, way_view}
use Rattle.comp_sweep.proofs.Stands.{map_same}
use Rattle.comp_sweep.proofs.Tallies.{name_same, own_is, same_queue, times_more}
use Rattle.comp_sweep.proofs.queues.RegionQueue.steal.Goals as goal

pub returns-in-Some-clause-same : goal.returns-in-Some-clause-same
returns-in-Some-clause-same g c =
    let ways = c.loop-k.self.ways.items in
    let inside : c.loop-k.k < length ways = search rules in
    let there = at_value ways c.loop-k.k c.index_mut-way.result.now inside c.index_mut-way.ensures.value in
    same_queue c.args.self.now c.loop-k.self.own (set ways c.loop-k.k c.steal.new.self) (own_is c.args.self.now.own c.loop-k.self.own c.loop-k.invariant.own)
    (map_same way_name ways c.loop-k.k c.index_mut-way.result.now c.steal.new.self there (name_same c.index_mut-way.result.now c.steal.new.self c.steal.ensures.same.0 c.steal.ensures.same.1) ∙ c.loop-k.invariant.ways)

pub returns-in-Some-clause-some : goal.returns-in-Some-clause-some
returns-in-Some-clause-some g c =
    let ways = c.loop-k.self.ways.items in
    let old = c.index_mut-way.result.now in
    let inside : c.loop-k.k < length ways = search rules in
    let there = at_value ways c.loop-k.k old inside c.index_mut-way.ensures.value in λ x.
    omega (
      arith,
      c.loop-k.invariant.none x,
      times_more x c.in-Some.region (way_view old).taken (way_view c.steal.new.self).taken c.in-Some.ensures.some,
      total-set (λ (w : Way). times x (way_view w).taken) ways c.loop-k.k old c.steal.new.self there,
    )

pub loop-k-preserved : goal.loop-k-preserved
loop-k-preserved g c =
    let ways = c.loop-k.self.ways.items in
    let old = c.index_mut-way.result.now in
    let inside : c.loop-k.k < length ways = search rules in
    let there = at_value ways c.loop-k.k old inside c.index_mut-way.ensures.value in record {
      own = c.loop-k.invariant.own;
      ways = map_same way_name ways c.loop-k.k old c.steal.new.self there (name_same c.index_mut-way.result.now c.steal.new.self c.steal.ensures.same.0 c.steal.ensures.same.1) ∙ c.loop-k.invariant.ways;
      none = λ x. omega (
        arith,
        c.loop-k.invariant.none x,
        ap (times x) c.in_default.ensures.none,
        total-set (λ (w : Way). times x (way_view w).taken) ways c.loop-k.k old c.steal.new.self there,
      );
    }
