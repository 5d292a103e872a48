use Rattle.heap_layout.specs.Counted.{inner_of, failures_of}
use Rattle.proved_clients.proofs.KeptFiles.{replay_unprinted, replayed_ok, unchanged}
use Rattle.proved_clients.proofs.memory.replay_in_memory.Goals as goal

pub returns-clause-kept : goal.returns-clause-kept
returns-clause-kept g c =
    replayed_ok c.written_is_there.ensures c.args.files.now c.perform.new.files c.args.asked (failures_of c.args.out.now) (failures_of c.perform.new.out) (g.O.Write.contents (inner_of c.args.out.now).now) (g.O.Write.contents (inner_of c.perform.new.out).now)
    c.perform.result c.perform.ensures.done

pub returns-clause-unprinted : goal.returns-clause-unprinted
returns-clause-unprinted g c =
    replay_unprinted c.written_is_there.ensures c.args.files.now c.perform.new.files c.args.asked (failures_of c.args.out.now) (failures_of c.perform.new.out) (g.O.Write.contents (inner_of c.args.out.now).now) (g.O.Write.contents (inner_of c.perform.new.out).now)
    c.perform.result c.perform.ensures.cause

pub returns-clause-refused : goal.returns-clause-refused
returns-clause-refused g c = unchanged c.args.files.now c.perform.new.files _ _ _ _ _ c.perform.result c.perform.ensures.cause
