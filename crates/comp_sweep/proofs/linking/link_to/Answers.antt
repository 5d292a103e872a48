use Rattle.comp_sweep.proofs.Tallies.{linked_to}
use Rattle.comp_sweep.proofs.linking.link_to.Goals as goal

pub returns : goal.returns
returns c =
    let held = c.in_ok-hold.ensures in
    linked_to c.args.queues.now.items c.args.to c.args.from c.index_mut-goal.result.now c.way.new.self c.index_mut-holder.result.now c.hold.new.self c.in_ok-way.way
    c.requires.to c.requires.from c.index_mut-goal.ensures.value c.index_mut-holder.ensures.value c.in_ok-way.ensures held.still held.put held.out held.ways held.taken c.requires.linked
