use Rattle.comp_trace.proofs.ChainedLines.{ChainedFrom}
use Rattle.comp_trace.proofs.races.chains.chained.Given as goal

-- the lines from the index on are chained
abbrev pub invariant-loop-position : goal.invariant-loop-position
invariant-loop-position l = ChainedFrom l.lines l.position l.firsts l.counts l.nexts.items

abbrev pub decreases-loop-position : goal.decreases-loop-position
decreases-loop-position l = l.position
