use Rattle.std.proofs.Common.{◌∙◌, sum, ap, arith, take_all}
use Rattle.comp_ledger.specs.Shares.{total_posted}
use Rattle.comp_ledger.proofs.Numbers.{left_behind, past_left, past_room, sum_next}
use Rattle.comp_ledger.proofs.gathering.last_within.Goals as goal

pub returns-then-share-left-clause-sum : goal.returns-then-share-left-clause-sum
returns-then-share-left-clause-sum g c =
    past_room c.args.room c.loop-share.left c.args.shares.now c.loop-share.share-index c.share-item.result c.loop-share-test.true c.share-item.is c.loop-share.invariant
    (sum c.args.last.now) c.if-share-left.true

pub returns-then-share-left-clause-within : goal.returns-then-share-left-clause-within
returns-then-share-left-clause-within g c =
    past_room c.args.room c.loop-share.left c.args.shares.now c.loop-share.share-index c.share-item.result c.loop-share-test.true c.share-item.is c.loop-share.invariant
    (sum c.args.last.now) c.if-share-left.true

pub loop-share-preserved : goal.loop-share-preserved
loop-share-preserved g c =
    left_behind c.args.room c.loop-share.left c.args.shares.now c.loop-share.share-index c.share-item.result c.loop-share-test.true c.share-item.is c.loop-share.invariant
    c.if-share-left.false

pub returns-then-words-left-clause-sum : goal.returns-then-words-left-clause-sum
returns-then-words-left-clause-sum g c =
    let i = c.loop-words.invariant in
    past_left c.args.room c.loop-share.left (total_posted c.args.shares.now) c.loop-words.sum c.args.last.now c.loop-words.words-index c.loop-words-test.true i.left i.sum c.if-words-left.true

pub returns-then-words-left-clause-within : goal.returns-then-words-left-clause-within
returns-then-words-left-clause-within g c =
    let i = c.loop-words.invariant in
    past_left c.args.room c.loop-share.left (total_posted c.args.shares.now) c.loop-words.sum c.args.last.now c.loop-words.words-index c.loop-words-test.true i.left i.sum c.if-words-left.true

pub loop-words-preserved : goal.loop-words-preserved
loop-words-preserved g c =
    let i = c.loop-words.invariant in
    record {
      left = i.left;
      sum = sum_next c.loop-words.sum c.args.last.now c.loop-words.words-index c.loop-words-test.true i.sum;
      within = omega (arith, c.if-words-left.false, i.within);
    }

pub returns-clause-sum : goal.returns-clause-sum
returns-clause-sum g c = c.loop-words.invariant.sum ∙ ap sum (take_all c.loop-words.words-index c.args.last.now c.loop-words-test.false)

pub returns-clause-within : goal.returns-clause-within
returns-clause-within g c = omega (arith, c.loop-words.invariant.left, c.loop-words.invariant.within)
