use Rattle.std.proofs.Common.{◌+◌, ◌-◌, ◌<◌, ◌≤◌, get_or}
use Rattle.pinned_heap.proofs.cutting.block_of.Given as goal

abbrev pub invariant-loop-low : goal.invariant-loop-low
invariant-loop-low l = record {
  begun : l.from ≤ l.low;
  order : l.low < l.high;
  within : l.high ≤ l.to + 1;
  below : l.from < l.low → get_or l.counts l.low 0 ≤ l.wanted;
  above : l.high ≤ l.to → l.wanted < get_or l.counts l.high 0;
}

abbrev pub decreases-loop-low : goal.decreases-loop-low
decreases-loop-low l = l.high - l.low
