use Rattle.std.proofs.Common.{◌+◌, ◌*◌, ◌∙◌, length, arith}
use Rattle.rest_marks.proofs.Bounding.{bit-inside}
use Rattle.rest_marks.proofs.Covered.{live-first, live-free, live-next, live-last}
use Rattle.rest_marks.proofs.live_bits.fill_part.Goals as goal

pub loop-next-init : goal.loop-next-init
loop-next-init c = record {
  live = live-first c.args.edition c.args.words.now c.args.heads.now c.requires.kept (64 * c.args.start) c.head_before-next.result c.clear.new.bits
      c.head_before-next.ensures.below c.head_before-next.ensures.here c.clear.ensures.none;
  long = c.clear.ensures.length;
}

pub returns-then-i-limit-clause-live : goal.returns-then-i-limit-clause-live
returns-then-i-limit-clause-live c =
    live-last c.args.edition c.args.words.now c.args.heads.now c.requires.kept (64 * c.args.start) c.loop-next.next (64 * (c.args.start + length c.loop-next.part)) c.loop-next.part
    c.loop-next.invariant.live (omega arith) (λ j low high. c.next_set-i.ensures.none j low (omega arith))

pub take_live-requires-clause-placed : goal.take_live-requires-clause-placed
take_live-requires-clause-placed c =
    let here = c.next_set-i.ensures.here (omega arith) in
    (c.requires.kept.kept c.next_set-i.result (omega arith) (bit-inside c.args.heads.now c.next_set-i.result here) here).placed

pub take_live-requires-clause-free : goal.take_live-requires-clause-free
take_live-requires-clause-free c =
    live-free c.args.edition c.args.words.now c.args.heads.now c.requires.kept (64 * c.args.start) c.loop-next.next c.next_set-i.result c.loop-next.part c.loop-next.invariant.live
    c.next_set-i.ensures.from (c.next_set-i.ensures.here (omega arith))

pub loop-next-preserved : goal.loop-next-preserved
loop-next-preserved c = record {
  live = live-next c.args.edition c.args.words.now c.args.heads.now c.requires.kept (64 * c.args.start) c.loop-next.next c.next_set-i.result c.loop-next.part c.take_live.new.part
      c.loop-next.invariant.live c.next_set-i.ensures.from (c.next_set-i.ensures.here (omega arith)) c.next_set-i.ensures.none c.take_live.ensures.length
      c.take_live.ensures.inside c.take_live.ensures.stay c.take_live.ensures.only;
  long = c.take_live.ensures.length ∙ c.loop-next.invariant.long;
}

pub returns-clause-live : goal.returns-clause-live
returns-clause-live c =
    live-last c.args.edition c.args.words.now c.args.heads.now c.requires.kept (64 * c.args.start) c.loop-next.next (64 * (c.args.start + length c.loop-next.part)) c.loop-next.part
    c.loop-next.invariant.live (omega arith) (λ j low high. absurd (omega arith))
