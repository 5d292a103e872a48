use Rattle.std.proofs.Common.{◌≡◌, fold, drop}
use Rattle.heap_layout.specs.Bits.{bit}
use Rattle.reachability.specs.Queue.{after_word, AreUnmet}
use Rattle.reachability.proofs.queue.meet_all.Given as goal

-- the remaining words make of the queue what all words make of the first one
abbrev pub invariant-loop-word : goal.invariant-loop-word
invariant-loop-word l = record {
  queue : fold (after_word (bit l.starts)) l.queue.items (drop l.word-index l.words) ≡ fold (after_word (bit l.starts)) l.fn.queue.items l.words;
  unmet : AreUnmet l.starts l.queue.items l.unmet;
}
