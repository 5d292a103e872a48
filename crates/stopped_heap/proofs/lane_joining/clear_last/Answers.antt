use Rattle.std.proofs.Common.{get_or, refl, ◌∙◌, arith}
use Rattle.std.proofs.lemmas.List.{drop_all}
use Rattle.reachability.proofs.Queues.{has-at}
use Rattle.stopped_heap.proofs.LanesJoined.{cleared-first, cleared-next, cleared-all}
use Rattle.stopped_heap.proofs.lane_joining.clear_last.Goals as goal

pub loop-k-init : goal.loop-k-init
loop-k-init c = record {
  from = omega arith;
  cleared = cleared-first c.args.keep c.args.queue.now c.args.heads.now c.requires.met;
  long = refl;
}

pub clear-requires : goal.clear-requires
clear-requires c =
    let queue = c.args.queue.now in
    let k = c.loop-k.k in
    omega (arith, c.requires.once.within (get_or queue k 0) (has-at queue k (omega (arith, c.loop-k-test.true))), c.requires.room, c.loop-k.invariant.long)

pub loop-k-preserved : goal.loop-k-preserved
loop-k-preserved c =
    let queue = c.args.queue.now in
    let k = c.loop-k.k in
    record {
      from = omega (arith, c.loop-k.invariant.from);
      cleared = cleared-next c.args.count c.args.keep queue k c.loop-k.heads c.clear.new.bits c.requires.once c.loop-k.invariant.from (omega (arith, c.loop-k-test.true))
          c.loop-k.invariant.cleared c.clear.ensures.here c.clear.ensures.others;
      long = c.clear.ensures.length ∙ c.loop-k.invariant.long;
    }

pub returns-clause-met : goal.returns-clause-met
returns-clause-met c =
    let queue = c.args.queue.now in
    let k = c.loop-k.k in
    cleared-all c.args.keep queue k c.loop-k.heads (drop_all k queue (omega (arith, c.loop-k-test.false))) c.loop-k.invariant.cleared
