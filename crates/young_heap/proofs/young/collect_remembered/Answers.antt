use Rattle.std.proofs.Common.{◌*◌, ◌≤◌, ◌++◌, [], length, drop, sym, ◌∙◌, arith}
use Rattle.std.proofs.lemmas.List.{length-take-le}
use Rattle.std.proofs.lemmas.Result.{err_from_is_err_and}
use Rattle.young_heap.specs.Young.{AreKeptYoung}
use Rattle.young_heap.proofs.Bearing.{fault-back, old-on, remembered-on}
use Rattle.young_heap.proofs.Closing.{next-old, next-clean}
use Rattle.young_heap.proofs.Fronts.{bit-left, bit-take, kept-front, kept-left}
use Rattle.young_heap.proofs.Gathering.{on_err}
use Rattle.young_heap.proofs.Leads.{kept-on}
use Rattle.young_heap.proofs.young.collect_remembered.Goals as goal

pub returns-clause-collected : goal.returns-clause-collected
returns-clause-collected c = λ premise remembered.
    let e = c.args.edition in
    let old = c.args.old in
    let words = c.args.words.now in
    let fields = c.args.fields.now in
    let weaks = c.args.weaks.now in
    let before = c.args.heads.now in
    let heads = c.clear_from.new.bits in
    let kept = kept-front old c.div_ceil-blocks.result before heads (omega (arith, c.requires.within, c.div_ceil-blocks.ensures)) c.clear_from.ensures.below in
    let found = c.in_ok-live.ensures.collected (old-on e words before heads old kept premise) (remembered-on e words before heads old kept fields weaks remembered) in
    let are : AreKeptYoung e words c.args.roots.now before old fields found.0 = record {
      below = kept-on old before heads found.0 kept found.1.below;
      reached = found.1.reached;
      all = found.1.all;
    } in
    (found.0, are, found.2)

pub returns-clause-next : goal.returns-clause-next
returns-clause-next c = λ premise remembered.
    let e = c.args.edition in
    let old = c.args.old in
    let words = c.args.words.now in
    let before = c.args.heads.now in
    let heads = c.clear_from.new.bits in
    let kept = kept-front old c.div_ceil-blocks.result before heads (omega (arith, c.requires.within, c.div_ceil-blocks.ensures)) c.clear_from.ensures.below in
    let row = old-on e words before heads old kept premise in
    let found = c.in_ok-live.ensures.collected row (remembered-on e words before heads old kept c.args.fields.now c.args.weaks.now remembered) in
    let live = c.in_ok-live.live in
    let after = c.collect_above.new.words in
    let n = c.div_ceil-blocks.result in
    let blocks = c.div_ceil-blocks.ensures in
    let front = length-take-le n before (omega (arith, blocks, c.requires.room)) in
    let long : live ≤ 64 * length c.promote.new.heads =
    omega (arith, c.in_ok-live.ensures.order.1, blocks, front, c.promote.ensures.heads_long, c.in_ok-live.ensures.heads_long, c.clear_from.ensures.length) in
    let whole = kept-left live c.promote.new.heads (drop n before) long in
    old-on e after c.promote.new.heads (c.promote.new.heads ++ drop n before) live whole
    (next-old e words c.args.roots.now found.0 c.promote.new.heads old live c.collect_above.new.roots after found.2
    (old-on e words heads found.0 old found.1.below row)
    (λ i lt. c.promote.ensures.below i lt ∙ c.in_ok-live.ensures.heads_below i lt ∙ sym (found.1.below i lt))
    c.promote.ensures.starts c.promote.ensures.all)

pub returns-clause-clean : goal.returns-clause-clean
returns-clause-clean c = λ premise remembered.
    let e = c.args.edition in
    let old = c.args.old in
    let words = c.args.words.now in
    let before = c.args.heads.now in
    let heads = c.clear_from.new.bits in
    let kept = kept-front old c.div_ceil-blocks.result before heads (omega (arith, c.requires.within, c.div_ceil-blocks.ensures)) c.clear_from.ensures.below in
    let row = old-on e words before heads old kept premise in
    let found = c.in_ok-live.ensures.collected row (remembered-on e words before heads old kept c.args.fields.now c.args.weaks.now remembered) in
    let live = c.in_ok-live.live in
    let after = c.collect_above.new.words in
    let n = c.div_ceil-blocks.result in
    let blocks = c.div_ceil-blocks.ensures in
    let front = length-take-le n before (omega (arith, blocks, c.requires.room)) in
    let long : live ≤ 64 * length c.promote.new.heads =
    omega (arith, c.in_ok-live.ensures.order.1, blocks, front, c.promote.ensures.heads_long, c.in_ok-live.ensures.heads_long, c.clear_from.ensures.length) in
    let whole = kept-left live c.promote.new.heads (drop n before) long in
    remembered-on e after c.promote.new.heads (c.promote.new.heads ++ drop n before) live whole [] []
    (next-clean e words c.args.roots.now found.0 c.promote.new.heads old live c.collect_above.new.roots after found.2
    (old-on e words heads found.0 old found.1.below row)
    (λ i lt. c.promote.ensures.below i lt ∙ c.in_ok-live.ensures.heads_below i lt ∙ sym (found.1.below i lt))
    c.promote.ensures.starts c.promote.ensures.all)

pub returns-in_err-live-clause-fault : goal.returns-in_err-live-clause-fault
returns-in_err-live-clause-fault c =
    let heads = c.clear_from.new.bits in
    let p = err_from_is_err_and c.from_residual.result c.from_residual.ensures.1 in
    rw (p.1, p.2)
    (fault-back c.args.edition c.args.words.now c.args.heads.now heads c.args.old
    (kept-front c.args.old c.div_ceil-blocks.result c.args.heads.now heads (omega (arith, c.requires.within, c.div_ceil-blocks.ensures)) c.clear_from.ensures.below) c.args.roots.now c.args.fields.now c.args.weaks.now
    c.in_err-live.field-0.0 c.in_err-live.ensures.fault)

pub returns-in_err-live-clause-bits_stay : goal.returns-in_err-live-clause-bits_stay
returns-in_err-live-clause-bits_stay c =
    let n = c.div_ceil-blocks.result in
    let blocks = c.div_ceil-blocks.ensures in
    let bits = c.args.bits.now in
    let front = length-take-le n bits (omega (arith, blocks, c.requires.room, c.requires.long)) in
    let is = c.in_err-live.ensures in
    on_err c.from_residual.result (λ i lt.
    bit-left c.collect_above.new.bits (drop n bits) i (omega (arith, lt, c.requires.within, blocks, front, is.bits_long, c.clear_from-2.ensures.length))
    ∙ is.bits_below i lt ∙ c.clear_from-2.ensures.below i lt ∙ bit-take n bits i (omega (arith, lt, c.requires.within, blocks)))
