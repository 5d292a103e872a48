use Rattle.std.proofs.Common.{◌≡◌, ◌++◌, take, filter}
use Rattle.stopped_heap.specs.Guarded.{is_lost}
use Rattle.stopped_heap.proofs.guarding.push_lost.Given as goal

abbrev pub invariant-loop-k : goal.invariant-loop-k
invariant-loop-k l = l.order.items ≡ l.fn.order.items ++ filter (is_lost l.growing.edition l.growing.marks) (take l.k l.guarded)
