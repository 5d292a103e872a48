use Rattle.std.proofs.Common.{◌≡◌, ◌+◌, ◌-◌, ◌*◌, ◌/◌, ◌%◌, ◌^◌, w64, get_or, refl, arith}
use Rattle.std.proofs.lemmas.Bool.{leb-true, leb-false}
use Rattle.std.specs.Int.{trailing_zeros}
use Rattle.rest_marks.proofs.Scanning.{next-there, none-there}
use Rattle.rest_marks.proofs.Starting.{none-between, some-between}
use Rattle.rest_marks.proofs.starts.is_last_before.Goals as goal

pub returns-then-starts-b-clause-other : goal.returns-then-starts-b-clause-other
returns-then-starts-b-clause-other c = λ no.
    some-between c.args.heads.now c.args.starts.now ((c.args.end - 1) / 64) c.args.i c.args.end c.requires.starts (omega (arith, c.requires.order, c.requires.known))
    (omega (arith, c.requires.order)) c.requires.here (omega (arith, c.if-starts-b.true))

pub returns-then-from-end-clause-last : goal.returns-then-from-end-clause-last
returns-then-from-end-clause-last c = λ yes.
    let b = (c.args.end - 1) / 64 in
    none-between c.args.heads.now c.args.starts.now b c.args.i c.args.end c.requires.starts (omega (arith, c.requires.order, c.requires.known)) (omega (arith, c.if-starts-b.false))
    (λ j above from lt. absurd (omega (arith, above, from, lt, c.if-from-end.true, c.max-from.ensures)))

pub returns-then-rest-eq0-clause-last : goal.returns-then-rest-eq0-clause-last
returns-then-rest-eq0-clause-last c = λ yes.
    let heads = c.args.heads.now in
    let b = (c.args.end - 1) / 64 in
    let from = c.max-from.result in
    let place : from ≡ 64 * b + from % 64 = omega (arith, c.max-from.ensures, c.if-from-end.false) in
    none-between heads c.args.starts.now b c.args.i c.args.end c.requires.starts (omega (arith, c.requires.order, c.requires.known)) (omega (arith, c.if-starts-b.false))
    (λ j above low lt. none-there heads from b (from % 64) place (omega arith) c.if-rest-eq0.true j (omega (arith, above, low, c.max-from.ensures)) (omega (arith, lt)))

pub returns-else-rest-eq0-clause-last : goal.returns-else-rest-eq0-clause-last
returns-else-rest-eq0-clause-last c = λ yes.
    let heads = c.args.heads.now in
    let b = (c.args.end - 1) / 64 in
    let from = c.max-from.result in
    let place : from ≡ 64 * b + from % 64 = omega (arith, c.max-from.ensures, c.if-from-end.false) in
    let next = next-there heads from b (from % 64) (get_or heads b 0 / 2 ^ (from % 64)) place (omega arith) refl (omega (arith, c.type_inv.heads b)) (omega (arith, c.if-rest-eq0.false)) in
    let far = leb-true _ _ yes in
    none-between heads c.args.starts.now b c.args.i c.args.end c.requires.starts (omega (arith, c.requires.order, c.requires.known)) (omega (arith, c.if-starts-b.false))
    (λ j above low lt. next.none j (omega (arith, above, low, c.max-from.ensures)) (omega (arith, lt, far)))

pub returns-else-rest-eq0-clause-other : goal.returns-else-rest-eq0-clause-other
returns-else-rest-eq0-clause-other c = λ no.
    let heads = c.args.heads.now in
    let b = (c.args.end - 1) / 64 in
    let from = c.max-from.result in
    let place : from ≡ 64 * b + from % 64 = omega (arith, c.max-from.ensures, c.if-from-end.false) in
    let rest = get_or heads b 0 / 2 ^ (from % 64) in
    let next = next-there heads from b (from % 64) rest place (omega arith) refl (omega (arith, c.type_inv.heads b)) (omega (arith, c.if-rest-eq0.false)) in
    let near = leb-false _ _ no in
    (from + trailing_zeros w64 rest, omega (arith, c.max-from.ensures), omega (arith, near), next.here)
