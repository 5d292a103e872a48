use Rattle.std.proofs.Common.{◌≡◌, take}
use Rattle.heap_layout.specs.Heap.{live}
use Rattle.page_plan.specs.Sliding.{live_words}
use Rattle.commands.proofs.live.live_words.Given as goal

-- the words of the objects so far
abbrev pub invariant-loop-mark : goal.invariant-loop-mark
invariant-loop-mark l = l.words ≡ live_words (take l.mark-index (live l.heap))
