use Rattle.std.proofs.Common.{◌≡◌, fold, drop, take, All}
use Rattle.heap_layout.specs.Bits.{bit}
use Rattle.reachability.specs.Queue.{after_part, AreUnmet, IsFound}
use Rattle.reachability.proofs.found.meet_parts.Given as goal

-- the remaining parts make of the queue what all parts make of the first one
abbrev pub invariant-loop-part : goal.invariant-loop-part
invariant-loop-part l = record {
  queue : fold (after_part (bit l.starts)) l.queue.items (drop l.part-index l.parts) ≡ fold (after_part (bit l.starts)) l.fn.queue.items l.parts;
  found : All IsFound (take l.part-index l.parts);
  unmet : AreUnmet l.starts l.queue.items l.unmet;
}
