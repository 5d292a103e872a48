use Rattle.std.proofs.Common.{arith}
use Rattle.clap.specs.Words.{found_of}
use Rattle.command_line.proofs.RunCounts.{workers_among, workers_number}
use Rattle.command_line.proofs.next.workers_of.Goals as goal

pub count_of-requires : goal.count_of-requires
count_of-requires c = workers_number (found_of c.args.found.now) (c.requires c.if-reaches.true)

pub overflow_cast-result : goal.overflow_cast-result
overflow_cast-result c = omega (arith, (workers_among (found_of c.args.found.now) (c.requires c.if-reaches.true) c.count_of.result c.count_of.ensures).1)

pub returns-then-reaches-clause-found : goal.returns-then-reaches-clause-found
returns-then-reaches-clause-found c = rw c.if-reaches.true c.count_of.ensures

pub returns-then-reaches-clause-within : goal.returns-then-reaches-clause-within
returns-then-reaches-clause-within c = workers_among (found_of c.args.found.now) (c.requires c.if-reaches.true) c.count_of.result c.count_of.ensures
