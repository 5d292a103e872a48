use Rattle.std.proofs.Common.{◌≡◌, fold, drop, map}
use Rattle.heap_layout.specs.Bits.{bit}
use Rattle.heap_layout.specs.Heap.{from_address}
use Rattle.reachability.specs.Queue.{after_word, AreUnmet}
use Rattle.reachability.proofs.found.meet_found.Given as goal

-- the remaining objects make of the queue what all objects make of the first one
abbrev pub invariant-loop-i : goal.invariant-loop-i
invariant-loop-i l = record {
  queue : fold (after_word (bit l.starts)) l.queue.items (map from_address (drop l.i-index l.found)) ≡ fold (after_word (bit l.starts)) l.fn.queue.items (map from_address l.found);
  unmet : AreUnmet l.starts l.queue.items l.unmet;
}
