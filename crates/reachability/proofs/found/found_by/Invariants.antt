use Rattle.std.proofs.Common.{◌≡◌, [], fold, drop}
use Rattle.heap_layout.specs.Bits.{bit}
use Rattle.reachability.specs.Queue.{found_more}
use Rattle.reachability.proofs.found.found_by.Given as goal

-- the remaining objects make of the list what all objects make of the empty one
abbrev pub invariant-loop-i : goal.invariant-loop-i
invariant-loop-i l = fold (found_more l.edition l.words (bit l.bits)) l.found.items (drop l.i-index l.objects) ≡ fold (found_more l.edition l.words (bit l.bits)) [] l.objects
