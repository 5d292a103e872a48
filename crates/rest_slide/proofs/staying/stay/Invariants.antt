use Rattle.mark_tables.specs.MarkBitmap.{set_bits}
use Rattle.rest_marks.specs.Looking.{led_to}
use Rattle.rest_slide.proofs.Moving.{IsMoved}
use Rattle.rest_slide.proofs.staying.stay.Given as goal

-- the first k references lead where they have to
abbrev pub invariant-loop-k : goal.invariant-loop-k
invariant-loop-k l = IsMoved (led_to l.edition (set_bits l.bits)) l.fn.words l.from l.from l.k l.words
