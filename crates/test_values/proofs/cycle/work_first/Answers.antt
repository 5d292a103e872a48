use Rattle.std.proofs.lemmas.List.Elements.{All-set}
use Rattle.comp_mutator.specs.Mutators.{IsMutatorOf}
use Rattle.test_values.proofs.cycle.work_first.Goals as goal

pub returns : goal.returns
returns g c =
    let of = IsMutatorOf c.args.space.now in
    record { of = All-set of c.args.mutators.now.items 0 c.work.new.m c.work.ensures c.requires.of }
