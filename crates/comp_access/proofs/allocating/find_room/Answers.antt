use Rattle.std.proofs.Common.{arith}
use Rattle.comp_access.proofs.LowPages.{low_noted}
use Rattle.comp_access.proofs.allocating.find_room.Goals as goal

pub choose-index-requires-clause-before : goal.choose-index-requires-clause-before
choose-index-requires-clause-before c = λ i lt. c.requires.low.full c.args.size i lt

pub returns-then-index-fills-clause-low : goal.returns-then-index-fills-clause-low
returns-then-index-fills-clause-low c = low_noted c.args.fills.now c.args.lows.now c.args.size c.choose-index.result (omega arith) c.choose-index.ensures.within c.choose-index.ensures.first c.requires.low

pub returns-else-index-fills-clause-low : goal.returns-else-index-fills-clause-low
returns-else-index-fills-clause-low c = low_noted c.args.fills.now c.args.lows.now c.args.size c.choose-index.result (omega arith) c.choose-index.ensures.within c.choose-index.ensures.first c.requires.low
