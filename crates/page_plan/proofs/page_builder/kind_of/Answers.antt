use Rattle.std.proofs.Common.{◌+◌, ◌-◌, arith}
use Rattle.heap_layout.specs.Header.{refs_of, weak_of}
use Rattle.page_plan.proofs.page_builder.kind_of.Goals as goal

pub returns-then-within-weak_from : goal.returns-then-within-weak_from
returns-then-within-weak_from c = λ header weak others inside. (c.args.within - 1, omega arith, omega arith)

pub returns-then-within-data_from : goal.returns-then-within-data_from
returns-then-within-data_from c = λ header weak others inside. (c.args.within - (1 + refs_of header), omega arith, omega arith)

pub returns-else-within-data_from : goal.returns-else-within-data_from
returns-else-within-data_from c = λ header weak others inside. (c.args.within - (1 + refs_of header + weak_of header), omega arith, omega arith)
