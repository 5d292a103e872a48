use Rattle.std.proofs.Common.{arith}
use Rattle.rest_marks.proofs.Starting.{last-bit}
use Rattle.rest_marks.proofs.starts.last_set.Goals as goal

pub returns-clause-here : goal.returns-clause-here
returns-clause-here c = (last-bit c.args.block c.requires (omega (arith, c.ranges.block.fits))).0

pub returns-clause-last : goal.returns-clause-last
returns-clause-last c = (last-bit c.args.block c.requires (omega (arith, c.ranges.block.fits))).1
