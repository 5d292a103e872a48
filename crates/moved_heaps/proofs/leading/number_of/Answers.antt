use Rattle.std.proofs.Common.{sym, ◌-◌, arith}
use Rattle.moved_heaps.proofs.Finding.{below_space, indexed_number}
use Rattle.moved_heaps.proofs.leading.number_of.Goals as goal

pub returns-then-address-lt-FROM_SPACE-clause-number : goal.returns-then-address-lt-FROM_SPACE-clause-number
returns-then-address-lt-FROM_SPACE-clause-number c = sym (below_space c.args.heap.now c.args.address (omega arith))

pub returns-clause-number : goal.returns-clause-number
returns-clause-number c =
    indexed_number c.args.heap.now c.marks.ensures.closed c.args.index.now (c.args.address - 4294967296) c.args.address c.number_at.result c.requires (omega arith) c.number_at.ensures
