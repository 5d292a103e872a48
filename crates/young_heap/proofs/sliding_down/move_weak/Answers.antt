use Rattle.std.proofs.Common.{arith}
use Rattle.mark_tables.specs.MarkBitmap.{set_bits}
use Rattle.rest_marks.specs.Looking.{kept_by}
use Rattle.rest_slide.proofs.Moving.{moved-first, moved-next}
use Rattle.young_heap.proofs.sliding_down.move_weak.Goals as goal

pub loop-k-init : goal.loop-k-init
loop-k-init c = moved-first (kept_by c.args.edition c.args.heads.now (set_bits c.args.bits.now)) c.args.words.now c.args.from c.args.to

pub loop-k-preserved : goal.loop-k-preserved
loop-k-preserved c =
    moved-next (kept_by c.args.edition c.args.heads.now (set_bits c.args.bits.now)) c.args.words.now c.args.from c.args.to c.loop-k.k c.loop-k.words c.settled_weak.result
    c.loop-k.invariant c.requires.down (omega (arith, c.loop-k.invariant.long, c.requires.down, c.requires.inside, c.loop-k-test.true)) c.settled_weak.ensures

pub returns-clause-moved : goal.returns-clause-moved
returns-clause-moved c = λ j lt. c.loop-k.invariant.moved j (omega (arith, lt, c.loop-k-test.false))

pub returns-clause-behind : goal.returns-clause-behind
returns-clause-behind c = λ j le. c.loop-k.invariant.behind j (omega (arith, le, c.loop-k.auto.k-end))
