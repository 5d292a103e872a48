use Rattle.std.proofs.Common.{arith}
use Rattle.rest_marks.proofs.Bounding.{bit-inside}
use Rattle.rest_slide.proofs.Ended.{live-rises}
use Rattle.rest_slide.proofs.Tried.{size-between}
use Rattle.rest_slide.proofs.trying.next_behind.Goals as goal

pub overflow_sub-next_place : goal.overflow_sub-next_place
overflow_sub-next_place c =
    let inside = bit-inside c.args.heads.now c.args.start c.requires.head in
    let next = c.head_behind-next.result in
    let counted = c.all_below-next_place.ensures in
    let more = live-rises c.args.bits.now c.args.start next c.all_below-next_place.result (omega (arith, inside, c.requires.same)) (omega (arith, c.head_behind-next.ensures.from)) counted.below counted.all in
    omega (arith, more, c.requires.place)

pub returns-then-size-next_place-clause-other : goal.returns-then-size-next_place-clause-other
returns-then-size-next_place-clause-other c = λ edition words tables same.
    let found = c.head_behind-next.ensures in
    let counted = c.all_below-next_place.ensures in
    let between = size-between edition words c.args.heads.now c.args.bits.now c.args.counts.now tables c.args.start c.head_behind-next.result c.args.place c.all_below-next_place.result
    c.requires.head c.requires.place found.from found.none found.here counted.below counted.all in
    c.if-size-next_place.true (omega (arith, between, same))

pub returns-clause-had : goal.returns-clause-had
returns-clause-had c = λ edition words tables.
    let found = c.head_behind-next.ensures in
    let counted = c.all_below-next_place.ensures in
    let between = size-between edition words c.args.heads.now c.args.bits.now c.args.counts.now tables c.args.start c.head_behind-next.result c.args.place c.all_below-next_place.result
    c.requires.head c.requires.place found.from found.none found.here counted.below counted.all in
    omega (arith, between, c.if-size-next_place.false)
