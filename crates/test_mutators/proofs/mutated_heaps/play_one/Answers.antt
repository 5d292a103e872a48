use Rattle.std.proofs.lemmas.List.Elements.{All-set}
use Rattle.comp_mutator.specs.Mutators.{IsMutatorOf}
use Rattle.test_mutators.proofs.mutated_heaps.play_one.Goals as goal

pub returns : goal.returns
returns g c =
    let of = IsMutatorOf c.args.space.now in
    record { of = All-set of c.args.mutators.now.items c.args.number c.expect_step.new.m c.expect_step.ensures.of c.requires.of }
