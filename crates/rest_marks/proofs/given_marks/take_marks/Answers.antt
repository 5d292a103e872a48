use Rattle.std.proofs.Common.{◌≡◌, ℕ, ◌+◌, ◌*◌, ◌<◌, ◌≤◌, false, length, sym, ap, ◌∙◌, arith}
use Rattle.heap_layout.specs.Bits.{bit}
use Rattle.rest_marks.proofs.Bounding.{bit-inside, bit-past}
use Rattle.rest_marks.proofs.Taken.{AreTaken, taken-up, taken-more}
use Rattle.rest_marks.proofs.given_marks.take_marks.Goals as goal
use Rattle.rest_marks.proofs.given_marks.take_marks.Goals.{then-i-end+in_ok-take_mark, else-i-end}

pub loop-next-preserved : goal.loop-next-preserved
loop-next-preserved c =
    let e = c.args.edition in
    let words = c.args.words.now in
    let heads = c.args.heads.now in
    let next = c.loop-next.next in
    let i = c.min-i.result in
    let le : next ≤ i = omega (arith, c.next_set-found.ensures.from, c.min-i.ensures, c.loop-next-test.true) in
    let none : (j : ℕ) → next ≤ j → j < i → bit heads j ≡ false = λ j low high. c.next_set-found.ensures.none j low (omega (arith, high, c.min-i.ensures)) in
    let up = taken-up e words heads c.loop-next.bits next i c.loop-next.invariant.taken le none in
    elim c.if-i-end.branch [
      | then-i-end+in_ok-take_mark w ↦
          let found : c.next_set-found.result ≡ i = omega (arith, w.if-i-end.true, c.min-i.ensures) in
          let done = w.in_ok-take_mark.ensures in
          let more : AreTaken e words heads (i + 1) w.take_mark.new.bits =
          taken-more e words heads c.loop-next.bits w.take_mark.new.bits i up (ap (bit heads) (sym found) ∙ c.next_set-found.ensures.here (omega (arith, found, w.if-i-end.true)))
          done.kept done.free done.inside done.stay done.before in
          rw w.bits-is (record { taken = more; long = w.take_mark.ensures.long ∙ c.loop-next.invariant.long })
      | else-i-end w ↦
          let last : i ≡ 64 * length heads = omega (arith, w.if-i-end.false, c.min-i.ensures) in
          let one : AreTaken e words heads (i + 1) c.loop-next.bits = taken-up e words heads c.loop-next.bits i (i + 1) up (omega arith) (λ j low high. bit-past heads j (omega (arith, low, last))) in
          rw w.bits-is (record { taken = one; long = c.loop-next.invariant.long })
    ]

pub returns-clause-kept : goal.returns-clause-kept
returns-clause-kept c = λ i set. c.loop-next.invariant.taken.kept i (omega (arith, bit-inside c.args.heads.now i set, c.loop-next-test.false)) set

pub returns-clause-run : goal.returns-clause-run
returns-clause-run c = λ i j set of. c.loop-next.invariant.taken.run i j (omega (arith, bit-inside c.args.heads.now i set, c.loop-next-test.false)) set of

pub returns-clause-apart : goal.returns-clause-apart
returns-clause-apart c = λ i j one two order. c.loop-next.invariant.taken.apart i j (omega (arith, bit-inside c.args.heads.now j two, c.loop-next-test.false)) one two order
