use Rattle.std.proofs.Common.{◌<◌, length, length-set, sym, ap, ◌∙◌, arith}
use Rattle.comp_sweep.specs.Queues.{taken_on}
use Rattle.comp_sweep.proofs.Tallies.{gathered_next, leads_here, leads_inside, put_back, taken_back, ways_back}
use Rattle.comp_sweep.proofs.gathering.give_back.Goals as goal

pub index_mut-queue-requires : goal.index_mut-queue-requires
index_mut-queue-requires c =
    omega (
      arith,
      leads_inside c.loop-way.queues.items c.in-Some.way c.next.new.self.rest.items c.loop-way.way-iterator.rest.items c.in-Some.ensures.steps.0 c.loop-way.invariant.linked,
      c.index-at.ensures,
      c.loop-way.queues.ok,
    )

pub absorb-requires : goal.absorb-requires
absorb-requires c =
    let queues = c.loop-way.queues.items in
    let way = c.in-Some.way in
    let more = c.next.new.self.rest.items in
    let rest = c.loop-way.way-iterator.rest.items in
    let e = c.in-Some.ensures.steps.0 in
    let inside : c.index-at.result < length queues = omega (arith, leads_inside queues way more rest e c.loop-way.invariant.linked, c.index-at.ensures) in
    leads_here queues c.index-at.result c.index_mut-queue.result.now c.index_mut-queue.result.now inside c.index_mut-queue.ensures.value way more rest e c.index-at.ensures c.loop-way.invariant.linked

pub loop-way-preserved : goal.loop-way-preserved
loop-way-preserved c =
    let queues = c.loop-way.queues.items in
    let at = c.index-at.result in
    let old = c.index_mut-queue.result.now in
    let new = c.absorb.new.self in
    let way = c.in-Some.way in
    let more = c.next.new.self.rest.items in
    let rest = c.loop-way.way-iterator.rest.items in
    let e = c.in-Some.ensures.steps.0 in
    let inv = c.loop-way.invariant in
    let is = c.index_mut-queue.ensures.value in
    let inside : at < length queues = omega (arith, leads_inside queues way more rest e inv.linked, c.index-at.ensures) in record {
      count = length-set queues at new ∙ inv.count;
      linked = gathered_next queues at old new inside is way more rest e (sym c.index-at.ensures) c.absorb.ensures inv.linked;
      put = λ x. put_back queues at old new inside is x way c.absorb.ensures ∙ inv.put x;
      ways = ways_back queues at old new inside is way c.absorb.ensures ∙ inv.ways;
      taken = λ x. omega (arith, taken_back queues at old new inside is x way c.absorb.ensures, inv.taken x, ap (taken_on x) e);
    }
