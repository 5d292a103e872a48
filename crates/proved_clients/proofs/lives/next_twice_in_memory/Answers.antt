use Rattle.heap_layout.specs.Counted.{inner_of}
use Rattle.proved_clients.proofs.TwoRuns.{both_lived}
use Rattle.proved_clients.proofs.lives.next_twice_in_memory.Goals as goal

pub returns : goal.returns
returns g c =
    let first = g.O.Write.contents (inner_of c.perform.new.out).now in
    both_lived c.written_is_there.ensures c.nexts_are_one_life.ensures.two c.args.files.now c.perform.new.files c.perform-2.new.files c.args.first c.args.second
    (g.O.Write.contents (inner_of c.args.out.now).now) first first (g.O.Write.contents (inner_of c.perform-2.new.out).now) c.requires.follows c.in_ok-perform.ensures.done
    c.perform-2.result c.perform-2.ensures.done
