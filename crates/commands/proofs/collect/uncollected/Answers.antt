use Rattle.std.proofs.Common.{length, List, ℕ, subst, arith}
use Rattle.stopped_heap.specs.Collecting.{RefusesCollection}
use Rattle.rest_marks.specs.declared.fault.CollectFault.{CollectFault}
use Rattle.commands.proofs.Collected.{live-fit}
use Rattle.commands.proofs.collect.uncollected.Goals as goal

-- The live words fit where all words do.
pub unreachable-requires : goal.unreachable-requires
unreachable-requires c =
    let refuses = subst (RefusesCollection c.args.edition c.args.words.now c.args.roots.now (length c.args.words.now)) c.in-NoRoom.is c.requires in
    let fit = live-fit _ refuses.2 in
    omega (arith, refuses.3, refuses.4, fit)
