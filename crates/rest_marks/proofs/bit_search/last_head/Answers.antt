use Rattle.std.proofs.Common.{◌≡◌, ◌+◌, ◌-◌, ◌*◌, ◌<◌, length, refl, sym, subst, ◌∙◌, arith}
use Rattle.rest_marks.proofs.Starting.{IsLastFrom, IsNot, from-behind, from-bit, from-block, start-last}
use Rattle.rest_marks.proofs.bit_search.last_head.Goals as goal

pub returns-then-heads-b-eq0-clause-here : goal.returns-then-heads-b-eq0-clause-here
returns-then-heads-b-eq0-clause-here c =
    let b = c.block_of-b.result in
    let known : b < length c.args.bits.now = omega (arith, c.block_of-b.ensures.known, c.requires.offsets.long) in
    let last = from-block c.args.heads.now c.args.bits.now c.args.counts.now c.args.n b (64 * b) c.requires.offsets known c.block_of-b.ensures.above c.if-heads-b-eq0.true refl in
    (start-last c.args.heads.now c.args.bits.now c.args.counts.now c.args.starts.now c.args.n b (64 * b) _ c.requires.offsets c.requires.starts c.requires.same known c.block_of-b.ensures.below
    c.requires.some (omega arith) last refl).here

pub returns-then-heads-b-eq0-clause-below : goal.returns-then-heads-b-eq0-clause-below
returns-then-heads-b-eq0-clause-below c =
    let b = c.block_of-b.result in
    let known : b < length c.args.bits.now = omega (arith, c.block_of-b.ensures.known, c.requires.offsets.long) in
    let last = from-block c.args.heads.now c.args.bits.now c.args.counts.now c.args.n b (64 * b) c.requires.offsets known c.block_of-b.ensures.above c.if-heads-b-eq0.true refl in
    (start-last c.args.heads.now c.args.bits.now c.args.counts.now c.args.starts.now c.args.n b (64 * b) _ c.requires.offsets c.requires.starts c.requires.same known c.block_of-b.ensures.below
    c.requires.some (omega arith) last refl).below

pub returns-then-heads-b-eq0-clause-last : goal.returns-then-heads-b-eq0-clause-last
returns-then-heads-b-eq0-clause-last c =
    let b = c.block_of-b.result in
    let known : b < length c.args.bits.now = omega (arith, c.block_of-b.ensures.known, c.requires.offsets.long) in
    let last = from-block c.args.heads.now c.args.bits.now c.args.counts.now c.args.n b (64 * b) c.requires.offsets known c.block_of-b.ensures.above c.if-heads-b-eq0.true refl in
    (start-last c.args.heads.now c.args.bits.now c.args.counts.now c.args.starts.now c.args.n b (64 * b) _ c.requires.offsets c.requires.starts c.requires.same known c.block_of-b.ensures.below
    c.requires.some (omega arith) last refl).last

pub loop-i-init : goal.loop-i-init
loop-i-init c =
    let b = c.block_of-b.result in
    let known : b < length c.args.bits.now = omega (arith, c.block_of-b.ensures.known, c.requires.offsets.long) in
    record {
      low = omega arith;
      high = omega arith;
      last = from-behind c.args.heads.now c.args.bits.now c.args.counts.now c.args.n b (64 * b + 64) c.requires.offsets known c.block_of-b.ensures.above refl;
    }

pub loop-i-preserved : goal.loop-i-preserved
loop-i-preserved c =
    let heads = c.args.heads.now in
    let bits = c.args.bits.now in
    let n = c.args.n in
    let i = c.loop-i.i in
    let fails : IsNot heads bits n (i - 1) = sym c.is_at_most.ensures ∙ c.if-is_at_most.false in
    let next : i ≡ i - 1 + 1 = omega (arith, c.loop-i-test.true) in
    record {
      low = omega (arith, c.loop-i-test.true);
      high = omega (arith, c.loop-i.invariant.high);
      last = from-bit heads bits n (i - 1) (subst (IsLastFrom heads bits n) next c.loop-i.invariant.last) fails;
    }

pub returns-clause-below : goal.returns-clause-below
returns-clause-below c =
    let b = c.block_of-b.result in
    let known : b < length c.args.bits.now = omega (arith, c.block_of-b.ensures.known, c.requires.offsets.long) in
    (start-last c.args.heads.now c.args.bits.now c.args.counts.now c.args.starts.now c.args.n b c.loop-i.i _ c.requires.offsets c.requires.starts c.requires.same known c.block_of-b.ensures.below
    c.requires.some (omega (arith, c.loop-i-test.false)) c.loop-i.invariant.last refl).below
