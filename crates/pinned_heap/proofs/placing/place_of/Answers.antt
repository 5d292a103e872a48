use Rattle.std.proofs.Common.{◌/◌, ◌%◌, ◌^◌, ◌-◌, get_or, arith}
use Rattle.std.proofs.lemmas.Nat.{and_le_l}
use Rattle.heap_layout.specs.Bits.{bit}
use Rattle.pinned_heap.proofs.Ends.{place-low}
use Rattle.pinned_heap.proofs.Masks.{masked-plain, masked-stay}
use Rattle.pinned_heap.proofs.placing.place_of.Goals as goal

pub returns-then-stay-eq0-clause-place : goal.returns-then-stay-eq0-clause-place
returns-then-stay-eq0-clause-place c =
    let place = masked-plain c.args.bits.now c.args.stays.now c.args.i c.if-stay-eq0.true in
    let base = c.requires.bases.each (c.args.i / 64) (omega (arith, c.requires.known)) in
    omega (arith, c.from.ensures, place, base)

pub returns-then-stay-eq0-clause-few : goal.returns-then-stay-eq0-clause-few
returns-then-stay-eq0-clause-few c =
    omega (arith, returns-then-stay-eq0-clause-place c, place-low (bit c.args.bits.now) (bit c.args.stays.now) c.args.i)

pub returns-clause-place : goal.returns-clause-place
returns-clause-place c =
    let i = c.args.i in
    let stay = get_or c.args.stays.now (i / 64) 0 in
    let small = and_le_l stay (18446744073709551615 / 2 ^ (63 - i % 64)) in
    let place = masked-stay c.args.bits.now c.args.stays.now i (omega (arith, c.if-stay-eq0.false)) (omega (arith, small, c.type_inv.stays (i / 64))) in
    omega (arith, c.from-2.ensures, place)

pub returns-clause-few : goal.returns-clause-few
returns-clause-few c =
    omega (arith, returns-clause-place c, place-low (bit c.args.bits.now) (bit c.args.stays.now) c.args.i)
