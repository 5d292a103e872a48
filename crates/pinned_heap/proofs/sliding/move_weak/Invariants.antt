use Rattle.pinned_heap.specs.Tables.{kept_at_place}
use Rattle.rest_slide.proofs.Moving.{IsMoved}
use Rattle.pinned_heap.proofs.sliding.move_weak.Given as goal

-- the first k weak words are moved
abbrev pub invariant-loop-k : goal.invariant-loop-k
invariant-loop-k l = IsMoved (kept_at_place l.edition l.heads l.bits l.stays) l.fn.words l.from l.to l.k l.words
