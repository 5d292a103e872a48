use Rattle.std.proofs.Common.{◌≡◌, ◌++◌, take, filter}
use Rattle.heap_layout.specs.Heap.{is_value}
use Rattle.stopped_heap.proofs.guarding.push_kept.Given as goal

abbrev pub invariant-loop-k : goal.invariant-loop-k
invariant-loop-k l = l.order.items ≡ l.fn.order.items ++ filter (is_value l.growing.edition l.growing.marks) (take l.k l.guarded)
