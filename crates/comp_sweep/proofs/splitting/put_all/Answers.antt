use Rattle.std.proofs.Common.{◌<◌, ◌%◌, length, length-set, ◌∙◌, rules}
use Rattle.comp_sweep.proofs.Tallies.{put_next, taken_same}
use Rattle.comp_sweep.proofs.splitting.put_all.Goals as goal

pub loop-region-preserved : goal.loop-region-preserved
loop-region-preserved c =
    let queues = c.loop-region.queues.items in
    let at = c.loop-region.region % c.len.result in
    let inside : at < length queues = search rules in
    let old = c.index_mut-queue.result.now in
    let new = c.put.new.self in
    let is = c.index_mut-queue.ensures.value in
    let put = c.in_ok-put.ensures in record {
      count = length-set queues at new ∙ c.loop-region.invariant.count;
      distributed = put_next queues at old new inside is c.loop-region.region put.still put.ways put.out put.put c.loop-region.invariant.distributed;
      taken = λ x. taken_same queues at old new inside is x (put.taken x) ∙ c.loop-region.invariant.taken x;
    }
