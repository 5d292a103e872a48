use Rattle.std.proofs.Common.{length, sym, ◌∙◌, arith}
use Rattle.mark_tables.proofs.NewPlaces.{below-all}
use Rattle.young_heap.proofs.aging.live_before.Goals as goal

pub returns-then-i-bits : goal.returns-then-i-bits
returns-then-i-bits c =
    let bits = c.args.bits.now in
    c.requires.offsets.before (length bits) (omega arith) ∙ sym (below-all bits c.args.i (omega (arith, c.if-i-bits.true)))
