use Rattle.std.proofs.Common.{◌+◌, inl, inr, refl, sym, ◌∙◌, arith}
use Rattle.std.proofs.lemmas.Bool.{both_ways}
use Rattle.rest_marks.proofs.Bounding.{bit-inside}
use Rattle.rest_slide.proofs.Ended.{IsEnd, live-rises, had-size, size-count, size-no-head, size-behind, size-inside}
use Rattle.rest_slide.proofs.trying.had_size.Goals as goal

pub returns-then-size-all-clause-other : goal.returns-then-size-all-clause-other
returns-then-size-all-clause-other c = λ no edition words tables same.
    let inside = size-inside edition words c.args.heads.now c.args.bits.now c.args.counts.now tables c.args.start c.args.size c.requires.head same c.requires.some in
    omega (arith, inside, c.if-size-all.true)

pub overflow_sub-live : goal.overflow_sub-live
overflow_sub-live c =
    let bits = c.args.bits.now in
    let start = c.args.start in
    let inside = bit-inside c.args.heads.now start c.requires.head in
    let counted = c.all_below.ensures in
    let more = live-rises bits start (start + c.args.size) c.all_below.result (omega (arith, inside, c.requires.same)) (omega arith) counted.below counted.all in
    omega (arith, more, c.requires.place)

pub returns-then-live-size-clause-other : goal.returns-then-live-size-clause-other
returns-then-live-size-clause-other c = λ no edition words tables same.
    let start = c.args.start in
    let size = c.args.size in
    let place = c.args.place in
    let end = start + size in
    let counted = c.all_below.ensures in
    let is : IsEnd edition words c.args.heads.now c.args.bits.now c.args.counts.now tables start size end c.all_below.result =
    record { at = refl; inside = omega (arith, c.if-size-all.false, c.requires.same, bit-inside c.args.heads.now start c.requires.head); below = counted.below; all = counted.all } in
    let many = size-count edition words c.args.heads.now c.args.bits.now c.args.counts.now tables start place size end c.all_below.result c.requires.head c.requires.place is same in
    c.if-live-size.true (omega (arith, many))

pub returns-then-not-is_last_before-clause-other : goal.returns-then-not-is_last_before-clause-other
returns-then-not-is_last_before-clause-other c = λ no edition words tables same.
    let other = c.is_last_before.ensures.other c.if-not-is_last_before.true in
    both_ways _ (size-no-head edition words c.args.heads.now c.args.bits.now c.args.counts.now tables c.args.start c.args.size other.0 c.requires.head same other.1 other.2) other.3

pub returns-then-end-all-clause-had : goal.returns-then-end-all-clause-had
returns-then-end-all-clause-had c = λ yes edition words tables.
    let start = c.args.start in
    let size = c.args.size in
    let place = c.args.place in
    let end = start + size in
    let counted = c.all_below.ensures in
    let is : IsEnd edition words c.args.heads.now c.args.bits.now c.args.counts.now tables start size end c.all_below.result =
    record { at = refl; inside = omega (arith, c.if-size-all.false, c.requires.same, bit-inside c.args.heads.now start c.requires.head); below = counted.below; all = counted.all } in
    had-size edition words c.args.heads.now c.args.bits.now c.args.counts.now tables start place size end c.all_below.result c.requires.head c.requires.place c.requires.some is
    (omega (arith, c.if-live-size.false, c.requires.some)) (c.is_last_before.ensures.last c.if-not-is_last_before.false) (inl (omega (arith, c.if-end-all.true)))

pub returns-then-not-is_set-clause-had : goal.returns-then-not-is_set-clause-had
returns-then-not-is_set-clause-had c = λ yes edition words tables.
    let start = c.args.start in
    let size = c.args.size in
    let place = c.args.place in
    let end = start + size in
    let counted = c.all_below.ensures in
    let is : IsEnd edition words c.args.heads.now c.args.bits.now c.args.counts.now tables start size end c.all_below.result =
    record { at = refl; inside = omega (arith, c.if-size-all.false, c.requires.same, bit-inside c.args.heads.now start c.requires.head); below = counted.below; all = counted.all } in
    had-size edition words c.args.heads.now c.args.bits.now c.args.counts.now tables start place size end c.all_below.result c.requires.head c.requires.place c.requires.some is
    (omega (arith, c.if-live-size.false, c.requires.some)) (c.is_last_before.ensures.last c.if-not-is_last_before.false) (inr (inl (sym c.is_set.ensures ∙ c.if-not-is_set.true)))

pub returns-clause-had : goal.returns-clause-had
returns-clause-had c = λ yes edition words tables.
    let start = c.args.start in
    let size = c.args.size in
    let place = c.args.place in
    let end = start + size in
    let counted = c.all_below.ensures in
    let is : IsEnd edition words c.args.heads.now c.args.bits.now c.args.counts.now tables start size end c.all_below.result =
    record { at = refl; inside = omega (arith, c.if-size-all.false, c.requires.same, bit-inside c.args.heads.now start c.requires.head); below = counted.below; all = counted.all } in
    had-size edition words c.args.heads.now c.args.bits.now c.args.counts.now tables start place size end c.all_below.result c.requires.head c.requires.place c.requires.some is
    (omega (arith, c.if-live-size.false, c.requires.some)) (c.is_last_before.ensures.last c.if-not-is_last_before.false) (inr (inr (sym c.is_set-2.ensures ∙ yes)))

pub returns-clause-other : goal.returns-clause-other
returns-clause-other c = λ no edition words tables same.
    let end = c.args.start + c.args.size in
    let live = sym c.is_set.ensures ∙ c.if-not-is_set.false in
    let head = size-behind edition words c.args.heads.now c.args.bits.now c.args.counts.now tables c.args.start c.args.size end c.requires.head same refl live in
    both_ways _ (sym c.is_set-2.ensures ∙ no) head
