use Rattle.std.proofs.Common.{◌≡◌, ◌++◌, take, drop}
use Rattle.stopped_heap.proofs.lane.Lane.waiting_in.Given as goal

-- the first k indices are copied, and those behind them are as they were
abbrev pub invariant-loop-k : goal.invariant-loop-k
invariant-loop-k l = l.indices ≡ take l.k (drop l.self.own.looked l.self.own.met) ++ drop l.k l.fn.indices
