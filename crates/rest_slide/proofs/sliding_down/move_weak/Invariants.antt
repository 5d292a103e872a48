use Rattle.mark_tables.specs.MarkBitmap.{set_bits}
use Rattle.rest_marks.specs.Looking.{kept_by}
use Rattle.rest_slide.proofs.Moving.{IsMoved}
use Rattle.rest_slide.proofs.sliding_down.move_weak.Given as goal

-- the first k weak words are moved
abbrev pub invariant-loop-k : goal.invariant-loop-k
invariant-loop-k l = IsMoved (kept_by l.edition l.heads (set_bits l.bits)) l.fn.words l.from l.to l.k l.words
