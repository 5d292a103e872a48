use Rattle.std.proofs.Common.{◌*◌, ◌/◌, ◌%◌, get_or, inl, inr, refl, arith}
use Rattle.std.proofs.lemmas.Bool.{cases_lt}
use Rattle.rest_marks.proofs.Scanning.{next-there, none-there}
use Rattle.young_heap.proofs.finding.next_set.Goals as goal

pub returns-then-rest-ne0-clause-none : goal.returns-then-rest-ne0-clause-none
returns-then-rest-ne0-clause-none c =
    let bits = c.args.bits.now in
    let i = c.args.i in
    (next-there bits i (i / 64) (i % 64) _ (omega arith) (omega arith) refl (omega (arith, c.type_inv.bits (i / 64))) (omega (arith, c.if-rest-ne0.true))).none

pub returns-then-rest-ne0-clause-here : goal.returns-then-rest-ne0-clause-here
returns-then-rest-ne0-clause-here c =
    let bits = c.args.bits.now in
    let i = c.args.i in
    λ inside. (next-there bits i (i / 64) (i % 64) _ (omega arith) (omega arith) refl (omega (arith, c.type_inv.bits (i / 64))) (omega (arith, c.if-rest-ne0.true))).here

pub loop-b-init : goal.loop-b-init
loop-b-init c =
    let bits = c.args.bits.now in
    let i = c.args.i in
    record {
      from = omega arith;
      within = omega (arith, c.requires.known);
      none = none-there bits i (i / 64) (i % 64) (omega arith) (omega arith) c.if-rest-ne0.false;
    }

pub returns-then-block-ne0-clause-none : goal.returns-then-block-ne0-clause-none
returns-then-block-ne0-clause-none c =
    let bits = c.args.bits.now in
    let b = c.loop-b.b in
    let next = next-there bits (64 * b) b 0 (get_or bits b 0) (omega arith) (omega arith) (omega arith) (omega (arith, c.type_inv.bits b)) (omega (arith, c.if-block-ne0.true)) in
    λ j from lt. elim (cases_lt j (64 * b)) [
      | inl low ↦ c.loop-b.invariant.none j from low
      | inr high ↦ next.none j high lt
    ]

pub returns-then-block-ne0-clause-here : goal.returns-then-block-ne0-clause-here
returns-then-block-ne0-clause-here c =
    let bits = c.args.bits.now in
    let b = c.loop-b.b in
    λ inside. (next-there bits (64 * b) b 0 (get_or bits b 0) (omega arith) (omega arith) (omega arith) (omega (arith, c.type_inv.bits b)) (omega (arith, c.if-block-ne0.true))).here
