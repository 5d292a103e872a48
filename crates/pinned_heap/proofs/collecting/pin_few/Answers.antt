use Rattle.std.proofs.Common.{length, refl, sym, ap, subst, arith}
use Rattle.stopped_heap.specs.Growth.{IsFoundIn}
use Rattle.rest_marks.specs.Places.{Found}
use Rattle.pinned_heap.specs.Pinned.{IsPinFault}
use Rattle.pinned_heap.specs.declared.fault.PinFault.TheVariants as pin
use Rattle.pinned_heap.proofs.Both.{refused-pin, refused-runs}
use Rattle.pinned_heap.proofs.collecting.pin_few.Goals as goal

pub returns-in-Err-BadPin-clause-fault : goal.returns-in-Err-BadPin-clause-fault
returns-in-Err-BadPin-clause-fault c =
    let found = c.args.places.now in
    let pins = c.args.pins.now in
    let k = c.in-Err-BadPin.k in
    let is : IsPinFault found pins (pin.BadPin k) = rw c.in-Err-BadPin.field-0-is at c.in-Err-BadPin.ensures.fault in
    λ edition words roots at edition_is reached leads few. refused-pin edition words roots pins c.args.most found k reached few is

pub returns-in-Err-OutOfMemory-clause-fault : goal.returns-in-Err-OutOfMemory-clause-fault
returns-in-Err-OutOfMemory-clause-fault c = λ edition words roots at edition_is reached leads few. few

pub returns-then-count-most-clause-fault : goal.returns-then-count-most-clause-fault
returns-then-count-most-clause-fault c =
    let p = c.in-Ok.pinned in
    let found = c.args.places.now in
    let runs = c.runs-count.result.now in
    λ edition words roots at edition_is reached leads few.
    let there : IsFoundIn p.found words = subst (λ (f : Found). IsFoundIn f words) (sym c.in-Ok.ensures.found) at in
    refused-runs p found edition words roots c.args.pins.now c.in-Ok.ensures.found c.in-Ok.ensures.staying at c.in-Ok.ensures.objects
    runs c.args.most (length runs) (c.runs-count.ensures words there) refl (omega (arith, c.if-count-most.true))
    edition_is reached leads few

pub returns-clause-few : goal.returns-clause-few
returns-clause-few c = λ words at. omega (arith, ap length (c.runs-count.ensures words at), c.if-count-most.false)
