use Rattle.std.proofs.Common.{◌/◌, ◌^◌, get_or, w64, arith}
use Rattle.std.specs.Int.{trailing_zeros}
use Rattle.std.proofs.lemmas.Nat.Bits.{bit_at-trailing_zeros}
use Rattle.rest_marks.proofs.RunBlocks.{runs-next, run-block, odd-there, last-live}
use Rattle.rest_marks.proofs.runs.odd_word.Goals as goal

pub returns-then-odd-ne0-clause-odd : goal.returns-then-odd-ne0-clause-odd
returns-then-odd-ne0-clause-odd c =
    let odd = c.odd_words-odd.result in
    let lowest = bit_at-trailing_zeros w64 odd (omega (arith, c.if-odd-ne0.true)) (omega (arith, c.odd_words-odd.type_inv)) in
    odd-there c.args.heads.now c.args.bits.now c.loop-b.b c.loop-b.before c.behind_live.result odd (trailing_zeros w64 odd) lowest.0 c.loop-b.invariant.1
    (record { first = c.behind_live.ensures.first; next = c.behind_live.ensures.next })
    (record { odd_there = c.odd_words-odd.ensures.odd; live = c.odd_words-odd.ensures.live; begun = c.odd_words-odd.ensures.begun })
    lowest.1

pub loop-b-init : goal.loop-b-init
loop-b-init c = (
  record {
    live = λ i lt set. absurd (omega (arith, lt));
    begun = λ i lt set. absurd (omega (arith, lt));
    first = λ lt set. absurd (omega (arith, lt));
  },
  record {
    few = omega arith;
    some = λ said. absurd (omega (arith, said));
    live = λ said j at. absurd (omega (arith, said));
    none = λ said j at. absurd (omega (arith, at));
  },
)

pub loop-b-preserved : goal.loop-b-preserved
loop-b-preserved c =
    let heads = c.args.heads.now in
    let bits = c.args.bits.now in
    let b = c.loop-b.b in (
      runs-next heads bits b c.loop-b.before c.loop-b.invariant.0 c.loop-b.invariant.1
          (run-block (get_or heads b 0) (get_or bits b 0) c.loop-b.before c.behind_live.result c.odd_words-odd.result
          (record { first = c.behind_live.ensures.first; next = c.behind_live.ensures.next })
          (record { odd_there = c.odd_words-odd.ensures.odd; live = c.odd_words-odd.ensures.live; begun = c.odd_words-odd.ensures.begun })
          (omega (arith, c.if-odd-ne0.false))),
      last-live bits b (get_or bits b 0 / 2 ^ 63) (omega (arith, c.type_inv.bits b)),
    )
