use Rattle.std.proofs.Common.{◌*◌, get_or, arith}
use Rattle.std.proofs.lemmas.Nat.{ones-le}
use Rattle.heap_layout.specs.Bits.{bit}
use Rattle.pinned_heap.proofs.Ends.{end-low, end-behind-plain, end-behind-stay}
use Rattle.pinned_heap.proofs.bases.end_of_block.Goals as goal

pub overflow_add-result : goal.overflow_add-result
overflow_add-result c =
    let bits = c.args.bits.now in
    let b = c.args.b in
    omega (arith, c.requires.few, c.requires.known, c.requires.before, end-low (bit bits) (bit c.args.stays.now) (64 * b), c.from.ensures, ones-le 64 (get_or bits b 0) (omega (arith, c.type_inv.bits b)))

pub overflow_add-result-2 : goal.overflow_add-result-2
overflow_add-result-2 c = omega (arith, c.requires.few, c.requires.known)

pub returns-then-stay-eq0 : goal.returns-then-stay-eq0
returns-then-stay-eq0 c =
    let bits = c.args.bits.now in
    let b = c.args.b in
    let ends = end-behind-plain bits c.args.stays.now b (omega (arith, c.type_inv.bits b)) c.if-stay-eq0.true in
    omega (arith, ends, c.requires.before, c.from.ensures)

pub returns : goal.returns
returns c =
    let bits = c.args.bits.now in
    let stays = c.args.stays.now in
    let b = c.args.b in
    let ends = end-behind-stay bits stays b (omega (arith, c.type_inv.bits b)) (omega (arith, c.type_inv.stays b)) (omega (arith, c.if-stay-eq0.false)) in
    omega (arith, ends, c.from-2.ensures)
