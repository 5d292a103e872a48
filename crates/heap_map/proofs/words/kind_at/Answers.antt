use Rattle.std.proofs.Common.{◌-◌, arith}
use Rattle.heap_map.proofs.words.kind_at.Goals as goal

pub returns-then-offset-first-clause-kind : goal.returns-then-offset-first-clause-kind
returns-then-offset-first-clause-kind c = (c.args.offset - 1, omega arith, omega arith)

pub returns-then-offset-first-2-clause-kind : goal.returns-then-offset-first-2-clause-kind
returns-then-offset-first-2-clause-kind c = (c.args.offset - c.first.result, omega arith, omega arith)

pub returns-else-offset-first-2-clause-kind : goal.returns-else-offset-first-2-clause-kind
returns-else-offset-first-2-clause-kind c = (c.args.offset - c.first-else-offset-first.result, omega arith, omega arith)
