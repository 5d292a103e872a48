use Rattle.std.proofs.lemmas.List.Elements.{All-set}
use Rattle.comp_mutator.specs.Mutators.{IsMutatorOf}
use Rattle.refused_runs.proofs.mutator_runs.is_settled.Goals as goal

pub returns-then-settled : goal.returns-then-settled
returns-then-settled g c =
    let of = IsMutatorOf c.args.space.now in
    record { of = All-set of c.args.mutators.now.items 0 c.settle.new.m c.settle.ensures.of c.requires.of }

pub returns-else-settled : goal.returns-else-settled
returns-else-settled g c =
    let of = IsMutatorOf c.args.space.now in
    record { of = All-set of c.args.mutators.now.items 0 c.settle.new.m c.settle.ensures.of c.requires.of }
