use Rattle.std.proofs.Common.{◌∙◌, arith}
use Rattle.moved_heaps.proofs.Objects.{word_led, first_kept, data_kept}
use Rattle.moved_heaps.proofs.whole.word_after.Goals as goal
use Rattle.moved_heaps.proofs.whole.word_after.Goals.{else-offset-gt0-via-then-offset-gt0+else-offset-first, else-offset-gt0-via-else-offset-gt0}

pub returns-then-offset-first : goal.returns-then-offset-first
returns-then-offset-first c =
    c.led.ensures
    ∙ word_led c.args.heap.now c.marks.ensures.closed c.args.places.now c.args.k c.args.offset c.requires.there c.marks.result.now c.words.result.now c.marks.ensures.marks c.words.ensures.words
    c.header_at-header.result c.first.result c.header_at-header.ensures c.first.ensures (omega arith) (omega arith)

pub returns-else-offset-gt0 : goal.returns-else-offset-gt0
returns-else-offset-gt0 c = elim c.else-offset-gt0.branch [
  | else-offset-gt0-via-then-offset-gt0+else-offset-first w ↦
      data_kept c.args.heap.now c.marks.ensures.closed c.args.places.now c.args.k c.args.offset c.requires.there c.marks.result.now c.words.result.now c.marks.ensures.marks c.words.ensures.words
      c.header_at-header.result w.first.result c.header_at-header.ensures w.first.ensures (omega arith) c.requires.inside
  | else-offset-gt0-via-else-offset-gt0 w ↦
      first_kept c.args.heap.now c.marks.ensures.closed c.args.places.now c.args.k c.args.offset c.requires.there c.marks.result.now c.words.result.now c.marks.ensures.marks c.words.ensures.words
      (omega arith)
]
