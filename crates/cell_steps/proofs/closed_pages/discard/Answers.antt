use Rattle.std.proofs.Common.{◌<◌, refl, arith}
use Rattle.std.specs.Mem.Slots.{slots_len}
use Rattle.cell_steps.proofs.TakenOut.{one_taken}
use Rattle.cell_steps.proofs.closed_pages.discard.Goals as goal

pub loop-p-init : goal.loop-p-init
loop-p-init c = record { long = refl; filled = c.requires; empty = λ k lt. absurd (omega arith) }

pub take-slot-requires : goal.take-slot-requires
take-slot-requires c =
    let h = c.loop-p.invariant in
    let inside : c.loop-p.p < slots_len c.loop-p.closed.slots = omega (arith, h.long) in
    (inside, h.filled c.loop-p.p (omega arith) inside)

pub loop-p-preserved : goal.loop-p-preserved
loop-p-preserved c =
    let h = c.loop-p.invariant in
    let others = c.take-slot.ensures.others in
    one_taken c.args.closed c.loop-p.closed c.take-slot.new.self c.loop-p.p h (omega (arith, h.long)) others.1 others.2

pub free-requires : goal.free-requires
free-requires c = λ k lt. c.loop-p.invariant.empty k (omega (arith, c.loop-p.invariant.long))
