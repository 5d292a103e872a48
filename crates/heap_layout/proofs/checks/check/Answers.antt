use Rattle.heap_layout.specs.Heap.{Heap}
use Rattle.heap_layout.proofs.PartFaults.{memory_reported}
use Rattle.heap_layout.proofs.checks.check.Goals as goal

pub returns-in_err-bits : goal.returns-in_err-bits
returns-in_err-bits c =
    let heap : Heap = record { edition = c.args.edition; words = c.args.words.now; marks = c.args.marks.now; roots = c.args.roots.now } in
    memory_reported heap c.from_residual-in_err-bits.result c.in_ok-check_sizes.ensures c.from_residual-in_err-bits.ensures.1
