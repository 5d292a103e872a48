use Rattle.std.proofs.lemmas.List.Elements.{All-set}
use Rattle.comp_mutator.specs.Mutators.{IsMutatorOf}
use Rattle.refused_runs.proofs.mutator_runs.is_done.Goals as goal

pub returns : goal.returns
returns g c =
    let of = IsMutatorOf c.args.space.now in
    record { of = All-set of c.args.mutators.now.items c.args.call.now.0 c.is_answered.new.m c.is_answered.ensures.of c.requires.of }
