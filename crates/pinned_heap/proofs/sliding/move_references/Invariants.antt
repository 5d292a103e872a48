use Rattle.pinned_heap.specs.Tables.{led_to_place}
use Rattle.rest_slide.proofs.Moving.{IsMoved}
use Rattle.pinned_heap.proofs.sliding.move_references.Given as goal

-- the first k references are moved
abbrev pub invariant-loop-k : goal.invariant-loop-k
invariant-loop-k l = IsMoved (led_to_place l.edition l.bits l.stays) l.fn.words l.from l.to l.k l.words
