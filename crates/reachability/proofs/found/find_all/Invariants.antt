use Rattle.std.proofs.Common.{◌≡◌, fold, drop}
use Rattle.heap_layout.specs.Bits.{bit}
use Rattle.reachability.specs.Queue.{after_found}
use Rattle.reachability.proofs.found.find_all.Given as goal

-- the remaining words make of the list what all words make of the first one
abbrev pub invariant-loop-word : goal.invariant-loop-word
invariant-loop-word l = fold (after_found (bit l.bits)) l.found.items (drop l.word-index l.words) ≡ fold (after_found (bit l.bits)) l.fn.found.items l.words
