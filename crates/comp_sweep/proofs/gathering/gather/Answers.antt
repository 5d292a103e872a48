use Rattle.std.proofs.Common.{◌<◌, length, length-set, ◌∙◌, arith, rules}
use Rattle.std.proofs.lemmas.List.{length-map}
use Rattle.comp_mutator.proofs.Rows.{at_below}
use Rattle.comp_sweep.specs.Queues.{standing, standings}
use Rattle.comp_sweep.proofs.Stands.{all_alone}
use Rattle.comp_sweep.proofs.Tallies.{none_next, put_freed, taken_set, ways_freed}
use Rattle.comp_sweep.proofs.gathering.gather.Goals as goal

pub give_back-requires : goal.give_back-requires
give_back-requires c =
    let queues = c.loop-k.queues.items in
    let inside : c.loop-k.k < length queues = search rules in
    let freed = c.free-ways.ensures in
    ways_freed queues c.loop-k.k c.index_mut-queue.result.now c.free-ways.new.self inside c.index_mut-queue.ensures.value c.free-ways.result.items
    freed.still freed.out freed.none freed.ways c.loop-k.invariant.linked

pub loop-k-preserved : goal.loop-k-preserved
loop-k-preserved c =
    let queues = c.loop-k.queues.items in
    let k = c.loop-k.k in
    let inside : k < length queues = search rules in
    let old = c.index_mut-queue.result.now in
    let new = c.free-ways.new.self in
    let is = c.index_mut-queue.ensures.value in
    let freed = c.free-ways.ensures in
    let inv = c.loop-k.invariant in
    let after = c.give_back.ensures in record {
      count = after.count ∙ length-set queues k new ∙ inv.count;
      linked = after.linked;
      put = λ x. after.put x ∙ put_freed queues k old new inside is x freed.still freed.put ∙ inv.put x;
      taken = λ x. omega (arith, after.taken x, taken_set x queues k old new inside is, freed.taken x, inv.taken x);
      none = none_next queues k old new inside is freed.none inv.none c.give_back.new.queues.items after.ways;
    }

pub returns-clause-alone : goal.returns-clause-alone
returns-clause-alone c =
    let queues = c.loop-k.queues.items in
    all_alone (standings queues) c.loop-k.invariant.linked
    (λ j s at. c.loop-k.invariant.none j s (omega (arith, at_below (standings queues) j s at, length-map queues standing, c.loop-k-test.false, c.len-k-end.ensures, c.loop-k.invariant.count, c.loop-k.queues.ok)) at)
