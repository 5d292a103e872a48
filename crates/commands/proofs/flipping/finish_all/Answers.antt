use Rattle.std.proofs.Common.{subst}
use Rattle.comp_mutator.specs.Unfinished.{IsUnfinishedFor}
use Rattle.comp_mutator.specs.Mutators.{setup_of}
use Rattle.comp_mutator.specs.declared.finishing.FinishFault.{FinishFault}
use Rattle.commands.proofs.flipping.finish_all.Goals as goal

pub unreachable-requires : goal.unreachable-requires
unreachable-requires g c =
    let k = c.in-MutatorMissing.field-0 in
    let least = subst (λ (fault : FinishFault). IsUnfinishedFor (setup_of c.args.space).mutators c.args.mutators.items fault) c.in-MutatorMissing.is c.in-Err.ensures.fault in
    least.missing (c.requires.all k least.below)
