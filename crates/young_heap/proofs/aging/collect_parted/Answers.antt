use Rattle.std.proofs.Common.{◌≡◌, ℕ, ◌+◌, ◌*◌, ◌≤◌, ◌++◌, true, length, drop, inl, inr, ◌∙◌, arith}
use Rattle.std.proofs.lemmas.Bool.{cases_lt}
use Rattle.std.proofs.lemmas.List.{get_or_append_left, length-take-le}
use Rattle.std.proofs.lemmas.Result.{err_from_is_err_and}
use Rattle.heap_layout.specs.Bits.{bit}
use Rattle.rest_marks.specs.Reached.{IsWordOf}
use Rattle.young_heap.specs.Rows.{here}
use Rattle.young_heap.specs.Young.{AreKeptYoung}
use Rattle.young_heap.proofs.Bearing.{fault-back, old-on, remembered-on}
use Rattle.young_heap.proofs.Closing.{next-old, same}
use Rattle.young_heap.proofs.Fronts.{bit-left, bit-take, kept-front, kept-left}
use Rattle.young_heap.proofs.Gathering.{on_err}
use Rattle.young_heap.proofs.Leads.{kept-on}
use Rattle.young_heap.proofs.Parting.{ended-between, lower-old, parted}
use Rattle.young_heap.proofs.aging.collect_parted.Goals as goal

pub last_end-middle-requires-clause-order : goal.last_end-middle-requires-clause-order
last_end-middle-requires-clause-order c =
    let tables = c.in_ok-live.ensures.tables in
    let ended = ended-between c.collect_above.new.bits c.args.old c.args.survived (omega (arith, tables.within, tables.room)) c.requires.survived tables.ones in
    (c.in_ok-live.ensures.order.0, omega (arith, ended.0, c.live_before-ended.ensures))

pub last_end-middle-requires-clause-first : goal.last_end-middle-requires-clause-first
last_end-middle-requires-clause-first c = λ lt. c.promote.ensures.all c.args.old (here c.args.old lt)

pub returns-clause-parted : goal.returns-clause-parted
returns-clause-parted c = λ old_are remembered.
    let e = c.args.edition in
    let words = c.args.words.now in
    let roots = c.args.roots.now in
    let old = c.args.old in
    let first = c.clear_from.new.bits in
    let kept = kept-front old c.div_ceil-blocks.result c.args.heads.now first (omega (arith, c.requires.within, c.div_ceil-blocks.ensures)) c.clear_from.ensures.below in
    let heads = c.collect_above.new.heads in
    let bits = c.collect_above.new.bits in
    let next = c.promote.new.heads in
    let after = c.collect_above.new.words in
    let live = c.in_ok-live.live in
    let tables = c.in_ok-live.ensures.tables in
    let row = old-on e words c.args.heads.now first old kept old_are in
    let marks = c.in_ok-live.ensures.marks row (remembered-on e words c.args.heads.now first old kept c.args.fields.now c.args.weaks.now remembered) in
    let row_on = old-on e words first heads old marks.kept.below row in
    let are : AreKeptYoung e words roots c.args.heads.now old c.args.fields.now heads = record {
      below = kept-on old c.args.heads.now first heads kept marks.kept.below;
      reached = marks.kept.reached;
      all = marks.kept.all;
    } in
    let run : (i j : ℕ) → bit heads i ≡ true → IsWordOf e words i j → bit bits j ≡ true = λ i j set of. elim (cases_lt i old) [
      | inl low ↦ (let inside = row_on.inside i low set in tables.ones j (omega (arith, inside, of.1)))
      | inr up ↦ tables.run i j up set of
    ] in
    let places_are = same e words roots heads next old live c.collect_above.new.roots after marks.is row_on c.promote.ensures.below c.promote.ensures.starts c.promote.ensures.all in
    let end = c.last_end-middle.ensures in
    let parts = parted e words roots heads bits c.collect_above.new.counts next live marks.tables tables.room run marks.is.sound places_are marks.is.live
    c.args.survived c.last_end-middle.result c.live_before-ended.result c.live_before-ended.ensures end.order.1 end.order.2 end.start end.last end.all in
    (heads, are, record { is = marks.is; parted = parts })

pub returns-clause-next : goal.returns-clause-next
returns-clause-next c = λ old_are remembered.
    let e = c.args.edition in
    let words = c.args.words.now in
    let old = c.args.old in
    let first = c.clear_from.new.bits in
    let kept = kept-front old c.div_ceil-blocks.result c.args.heads.now first (omega (arith, c.requires.within, c.div_ceil-blocks.ensures)) c.clear_from.ensures.below in
    let heads = c.collect_above.new.heads in
    let next = c.promote.new.heads in
    let after = c.collect_above.new.words in
    let live = c.in_ok-live.live in
    let row = old-on e words c.args.heads.now first old kept old_are in
    let marks = c.in_ok-live.ensures.marks row (remembered-on e words c.args.heads.now first old kept c.args.fields.now c.args.weaks.now remembered) in
    let row_on = old-on e words first heads old marks.kept.below row in
    let all = next-old e words c.args.roots.now heads next old live c.collect_above.new.roots after marks.is row_on c.promote.ensures.below c.promote.ensures.starts c.promote.ensures.all in
    let middle = c.last_end-middle.result in
    let n = c.div_ceil-blocks.result in
    let blocks = c.div_ceil-blocks.ensures in
    let end = c.last_end-middle.ensures in
    let front = length-take-le n c.args.heads.now (omega (arith, blocks, c.requires.room)) in
    let long : middle ≤ 64 * length next =
    omega (arith, end.order.1, c.in_ok-live.ensures.order.1, blocks, front, c.promote.ensures.heads_long, c.in_ok-live.ensures.heads_long, c.clear_from.ensures.length) in
    old-on e after next (next ++ drop n c.args.heads.now) middle (kept-left middle next (drop n c.args.heads.now) long)
    (lower-old e after next live middle all end.order.1 end.start)

pub returns-clause-bounds : goal.returns-clause-bounds
returns-clause-bounds c =
    let tables = c.in_ok-live.ensures.tables in
    let ended = ended-between c.collect_above.new.bits c.args.old c.args.survived (omega (arith, tables.within, tables.room)) c.requires.survived tables.ones in
    let end = c.last_end-middle.ensures.order in
    (end.0, omega (arith, end.2, ended.1, c.live_before-ended.ensures), end.1, c.in_ok-live.ensures.order.1)

pub returns-in_err-live-clause-fault : goal.returns-in_err-live-clause-fault
returns-in_err-live-clause-fault c =
    let old = c.args.old in
    let before = c.args.heads.now in
    let heads = c.clear_from.new.bits in
    let kept = kept-front old c.div_ceil-blocks.result before heads (omega (arith, c.requires.within, c.div_ceil-blocks.ensures)) c.clear_from.ensures.below in
    let p = err_from_is_err_and c.from_residual.result c.from_residual.ensures.1 in
    rw (p.1, p.2)
    (fault-back c.args.edition c.args.words.now before heads old kept c.args.roots.now c.args.fields.now c.args.weaks.now c.in_err-live.field-0.0 c.in_err-live.ensures.fault)

pub returns-in_err-live-clause-heads_stay : goal.returns-in_err-live-clause-heads_stay
returns-in_err-live-clause-heads_stay c = λ i lt.
    let n = c.div_ceil-blocks.result in
    let blocks = c.div_ceil-blocks.ensures in
    let heads = c.args.heads.now in
    let front = length-take-le n heads (omega (arith, blocks, c.requires.room)) in
    let is = c.in_err-live.ensures in
    bit-left c.collect_above.new.heads (drop n heads) i (omega (arith, lt, c.requires.within, blocks, front, is.heads_long, c.clear_from.ensures.length))
    ∙ is.heads_below i lt ∙ c.clear_from.ensures.below i lt ∙ bit-take n heads i (omega (arith, lt, c.requires.within, blocks))

pub returns-in_err-live-clause-bits_stay : goal.returns-in_err-live-clause-bits_stay
returns-in_err-live-clause-bits_stay c =
    let n = c.div_ceil-blocks.result in
    let blocks = c.div_ceil-blocks.ensures in
    let bits = c.args.bits.now in
    let front = length-take-le n bits (omega (arith, blocks, c.requires.room, c.requires.long)) in
    let is = c.in_err-live.ensures in
    on_err c.from_residual.result (λ i lt.
    bit-left c.collect_above.new.bits (drop n bits) i (omega (arith, lt, c.requires.within, blocks, front, is.bits_long, c.clear_from-2.ensures.length))
    ∙ is.bits_below i lt ∙ c.clear_from-2.ensures.below i lt ∙ bit-take n bits i (omega (arith, lt, c.requires.within, blocks)))

pub returns-clause-ones : goal.returns-clause-ones
returns-clause-ones c = λ i lt.
    let n = c.div_ceil-blocks.result in
    let blocks = c.div_ceil-blocks.ensures in
    let bits = c.args.bits.now in
    let front = length-take-le n bits (omega (arith, blocks, c.requires.room, c.requires.long)) in
    let is = c.in_ok-live.ensures in
    bit-left c.promote.new.bits (drop n bits) i (omega (arith, lt, is.order.1, blocks, front, is.bits_long, c.clear_from-2.ensures.length, c.promote.ensures.bits_long))
    ∙ c.promote.ensures.ones i lt

pub returns-clause-offsets : goal.returns-clause-offsets
returns-clause-offsets c = λ b le.
    let n = c.div_ceil-blocks.result in
    let blocks = c.div_ceil-blocks.ensures in
    let counts = c.args.counts.now in
    let front = length-take-le (n + 1) counts (omega (arith, blocks, c.requires.room, c.requires.long, c.requires.counts_long)) in
    let is = c.in_ok-live.ensures in
    get_or_append_left c.promote.new.counts (drop (n + 1) counts) 0 b (omega (arith, le, is.order.1, blocks, front, is.offsets_long, c.promote.ensures.counts_long))
    ∙ c.promote.ensures.offsets b le

pub returns-clause-heads_stay : goal.returns-clause-heads_stay
returns-clause-heads_stay c = λ i lt.
    let n = c.div_ceil-blocks.result in
    let blocks = c.div_ceil-blocks.ensures in
    let heads = c.args.heads.now in
    let front = length-take-le n heads (omega (arith, blocks, c.requires.room)) in
    let is = c.in_ok-live.ensures in
    bit-left c.promote.new.heads (drop n heads) i (omega (arith, lt, c.requires.within, blocks, front, is.heads_long, c.clear_from.ensures.length, c.promote.ensures.heads_long))
    ∙ c.promote.ensures.below i lt ∙ is.heads_below i lt ∙ c.clear_from.ensures.below i lt ∙ bit-take n heads i (omega (arith, lt, c.requires.within, blocks))
