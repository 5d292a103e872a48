use Rattle.std.proofs.Common.{◌*◌, refl, arith}
use Rattle.rest_marks.proofs.AskedObjects.{kept-first, kept-next, kept-up}
use Rattle.rest_marks.proofs.asking.are_kept.Goals as goal

pub loop-next-init : goal.loop-next-init
loop-next-init c = kept-first c.args.edition c.args.words.now c.args.heads.now (64 * c.args.first)

pub returns-then-i-limit : goal.returns-then-i-limit
returns-then-i-limit c = λ _.
    kept-up c.args.edition c.args.words.now c.args.heads.now (64 * c.args.first) c.loop-next.next (64 * c.args.end) c.loop-next.invariant
    (λ j low high. c.next_set-i.ensures.none j low (omega (arith, high, c.if-i-limit.true)))

pub loop-next-preserved : goal.loop-next-preserved
loop-next-preserved c =
    let is = c.if-not-is_kept_at.ensures in
    kept-next c.args.edition c.args.words.now c.args.heads.now (64 * c.args.first) c.loop-next.next c.next_set-i.result c.head_behind-after.result c.loop-next.invariant
    c.next_set-i.ensures.none (is.kept refl) (is.apart refl) c.head_behind-after.ensures.none

pub returns : goal.returns
returns c = λ _.
    kept-up c.args.edition c.args.words.now c.args.heads.now (64 * c.args.first) c.loop-next.next (64 * c.args.end) c.loop-next.invariant
    (λ j low high. absurd (omega (arith, low, high, c.loop-next-test.false)))
