use Rattle.std.proofs.Common.{◌≡◌, ◌<◌, ℕ, take}
use Rattle.heap_layout.specs.Heap.{live}
use Rattle.page_plan.specs.Sliding.{live_words}
use Rattle.moved_heaps.specs.Moved.{IsInside}
use Rattle.moved_heaps.proofs.places.check_places.Given as goal

-- the objects before this one lie inside the words, and their words are counted
abbrev pub invariant-loop-k : goal.invariant-loop-k
invariant-loop-k l = record { inside : (j : ℕ) → j < l.k → IsInside l.heap l.moved j; counted : l.words ≡ live_words (take l.k (live l.heap)) }
